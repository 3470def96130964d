-- The faults of modulefiles as refusals (own): that of the fault below, or their own.
use Rattle.std.specs.Prelude.{[]}
use Rattle.message.specs.Refusals.{NumberedText, about}
use Rattle.message.specs.declared.refusals.RefusalKind.TheVariants as kinds
use Rattle.tcltext.specs.chars.Faults as text_faults
use Rattle.tclrules.specs.Faults as evaluation
use Rattle.tclrules.specs.declared.outcome.EvalFault.{EvalFault}
use Rattle.tclrules.specs.declared.outcome.EvalFault.TheVariants as evals
use Rattle.modulefile.specs.RecordFaults as record_faults
use Rattle.modulefile_run.specs.declared.run_stop.RunStop.{RunStop}
use Rattle.modulefile_run.specs.declared.run_stop.RunStop.TheVariants as runs

-- a fault of the evaluation: the number of a text or of a refused command is its own
abbrev pub evaluation_refusal : EvalFault → NumberedText
evaluation_refusal (evals.Text fault) = text_faults.refusal_of fault
evaluation_refusal (evals.Host n) = record { number = n; text = (evaluation.refusal_of (evals.Host n)).text }
evaluation_refusal fault = evaluation.refusal_of fault

abbrev pub refusal_of : RunStop → NumberedText
refusal_of runs.OutOfMemory = about kinds.MemoryForRequest []
refusal_of (runs.Eval fault) = evaluation_refusal fault
refusal_of runs.BadArguments = about kinds.BadArguments []
refusal_of (runs.BadRecord fault) = record_faults.refusal_of fault
