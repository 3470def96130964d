use Rattle.tclrules.proofs.Leading.{stay, move_on}
use Rattle.tcleval.proofs.evaluator.Evaluator.left.Goals as goal

pub returns-in-Ok-clause-evaluates_to : goal.returns-in-Ok-clause-evaluates_to
returns-in-Ok-clause-evaluates_to g c = λ next oracle trace. rw (c.in-Ok.is, c.leave.ensures) move_on

pub returns-in-Err-clause-evaluates_to : goal.returns-in-Err-clause-evaluates_to
returns-in-Err-clause-evaluates_to g c = λ next oracle trace. rw c.in-Err.is stay
