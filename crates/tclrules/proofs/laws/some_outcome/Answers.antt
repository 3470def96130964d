use Rattle.std.proofs.Common.{arith}
use Rattle.tclrules.specs.Rules.{file_ended}
use Rattle.tclrules.specs.Meaning.{first}
use Rattle.tclrules.proofs.Totals.{job_ends, runs_end}
use Rattle.tclrules.proofs.Shrinking.{weight, shrinks}
use Rattle.tclrules.proofs.FileEnds.{file_ends}
use Rattle.tclrules.proofs.laws.some_outcome.Goals as goal

pub returns : goal.returns
returns c = λ s. runs_end _ file_ended (first s.trace) (job_ends weight (shrinks s.limits.value_bytes)) (omega arith) (file_ends s.oracle s.limits.commands s.limits.value_bytes)
