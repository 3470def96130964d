use Rattle.tclforms.proofs.substitution.Leading.{passed_on}
use Rattle.tcleval.proofs.turns.begin_turn.Goals as goal

pub returns-in_err-assign_items-clause-evaluates_to : goal.returns-in_err-assign_items-clause-evaluates_to
returns-in_err-assign_items-clause-evaluates_to c = λ most remaining r k x. passed_on _ _ _ _ c.from_residual.ensures.1 (c.in_err-assign_items.ensures most remaining r k x)
