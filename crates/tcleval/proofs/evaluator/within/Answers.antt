use Rattle.std.proofs.Common.{[]}
use Rattle.tclrules.proofs.Leading.{stay}
use Rattle.tcleval.proofs.Running.{sized_comes}
use Rattle.tcleval.proofs.evaluator.within.Goals as goal

pub returns-in-Ok : goal.returns-in-Ok
returns-in-Ok c = λ result_use s. rw c.in-Ok.is (sized_comes result_use _ s _ c.sized.result c.sized.ensures.within (λ most r k x. c.sized.ensures.evaluates_to most r k s x))

pub returns-in-Err : goal.returns-in-Err
returns-in-Err c = λ result_use s. rw c.in-Err.is ([], tt, λ most r k x. stay)
