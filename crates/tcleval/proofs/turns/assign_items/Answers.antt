use Rattle.tclforms.proofs.substitution.Leading.{starved_end}
use Rattle.tcleval.proofs.turns.assign_items.Goals as goal

pub returns-in_err-pairs : goal.returns-in_err-pairs
returns-in_err-pairs c = λ most remaining r k x. starved_end _ _ _ c.from_residual.ensures.1

pub returns : goal.returns
returns c = λ most remaining r k x. rw (← c.in_ok-pairs.ensures) (c.assign.ensures most remaining r k x)
