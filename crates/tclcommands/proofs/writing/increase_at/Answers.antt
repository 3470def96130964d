use Rattle.std.proofs.Common.{FitsSigned, w64, rules}
use Rattle.std.proofs.lemmas.Int.{to_z-of_z}
use Rattle.std.proofs.lemmas.Result.{err_from_is_err_and}
use Rattle.tclrules.proofs.Leading.{continue_with, starve}
use Rattle.tclforms.proofs.substitution.Leading.{given_on, sized_on}
use Rattle.tclcommands.proofs.writing.increase_at.Goals as goal

pub returns-in_err-sum : goal.returns-in_err-sum
returns-in_err-sum c =
    let p = err_from_is_err_and c.from_residual.result c.from_residual.ensures.1 in
    rw (p.1, p.2) (λ most remaining r k x. starve)

pub returns-in-Some : goal.returns-in-Some
returns-in-Some c =
    let h = rw c.in-Some.is at c.in_ok-sum.ensures.sum in
    let fits : FitsSigned w64 c.in-Some.sum = search rules in
    λ most remaining r k x. rw (to_z-of_z w64 c.in-Some.sum fits) (continue_with (given_on _ _ _ _ h.0) (rw h.2 (sized_on _ _ _ h.1)))

pub returns-in-None : goal.returns-in-None
returns-in-None c = rw (c.in_ok-sum.ensures.same c.in-None.is) at c.increase_anew.ensures
