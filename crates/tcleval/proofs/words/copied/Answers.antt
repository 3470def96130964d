use Rattle.tclforms.proofs.substitution.Leading.{starved_end}
use Rattle.tcleval.proofs.words.copied.Goals as goal

pub returns-in_err-copy : goal.returns-in_err-copy
returns-in_err-copy c = λ most r k s x. starved_end _ _ _ c.from_residual.ensures.1

pub returns : goal.returns
returns c = λ most r k s x. rw (← c.in_ok-copy.ensures.ok) (c.sized.ensures.evaluates_to most r k s x)
