-- What is left at the end of an evaluation by the program.
use Rattle.std.proofs.Common.{◌≡◌, false, List, [], ◌∷◌, Some, None, Ok, Err, refl, sym, ap}
use Rattle.std.specs.Prelude.{codes}
use Rattle.modulename.specs.ModuleName.{Text}
use Rattle.tclrules.specs.Oracle.{Trace}
use Rattle.tclrules.specs.Derivation.{EvaluationOutcome, OpenScript}
use Rattle.tclrules.specs.Variables.{Variables, lookup}
use Rattle.tclrules.specs.Plans as plans
use Rattle.tclrules.specs.Promise.{ReportsFault, is_out_of_memory, texts_of, Evaluates}
use Rattle.tclrules.specs.declared.limits.Limits.{Limits}
use Rattle.tclrules.specs.declared.outcome.Ending.{Ending}
use Rattle.tclrules.specs.declared.outcome.EvalFault.{EvalFault}
use Rattle.tclrules.specs.declared.outcome.EvalFault.TheVariants as fault
use Rattle.search.specs.DefaultFiles.{DefaultFileResult}
use Rattle.lookup.specs.DefaultFileResults.{default_oracle, result_of, HasResult}

-- a fault but want of memory leaves nothing
no_result : (script : Text) (scripts : List OpenScript) (f : EvalFault) (o : EvaluationOutcome plans.Completion) (trace : Trace) → is_out_of_memory f ≡ false → ReportsFault script scripts f o → result_of o trace ≡ None
no_result script scripts fault.OutOfMemory o trace m h = absurd (cc)
no_result script scripts (fault.Text f) o trace m h = rw h refl
no_result script scripts (fault.TclError message line) o trace m h = rw h.1 refl
no_result script scripts fault.TooManyCommands o trace m h = rw h refl
no_result script scripts fault.TooDeep o trace m h = rw h refl
no_result script scripts fault.ValueTooLong o trace m h = rw h refl
no_result script scripts fault.NumberTooLarge o trace m h = rw h refl
no_result script scripts fault.FractionOperand o trace m h = rw h refl
no_result script scripts (fault.LeftOut name) o trace m h = rw h refl
no_result script scripts fault.Stopped o trace m h = rw h refl
no_result script scripts (fault.Host n) o trace m h = rw h refl

abbrev pub empty_trace : Trace
empty_trace = record { records = []; messages = []; asked = []; refused = None }

abbrev pub globals_of : Text → Variables
globals_of path = (codes "ModulesCurrentModulefile", path) ∷ []

abbrev pub left_by : Ending → Trace → DefaultFileResult
left_by evaluation trace =
    record { commands = trace.records; version = lookup (texts_of evaluation.globals.items) (codes "ModulesVersion") }

pub ending_has_result : (limits : Limits) (path text : Text) (evaluation : Ending) (trace : Trace)
    → Evaluates limits text (globals_of path) default_oracle empty_trace (Ok evaluation) trace
    → HasResult limits path text (Some (left_by evaluation trace))
ending_has_result limits path text evaluation trace (scripts, (s, d, g)) =
    (_, _, d, ap (λ globals. Some (record { commands = trace.records; version = lookup globals (codes "ModulesVersion") })) (sym g))

pub fault_has_result : (limits : Limits) (path text : Text) (f : EvalFault) (trace : Trace) → is_out_of_memory f ≡ false
    → Evaluates limits text (globals_of path) default_oracle empty_trace (Err f) trace → HasResult limits path text None
fault_has_result limits path text f trace m (scripts, (o, used, r, d)) =
    (o, record { used = used; trace = trace; scripts = scripts }, rw m at d, sym (no_result text scripts f o trace m r))
