use Rattle.std.proofs.Common.{FitsSigned, w64, rules}
use Rattle.std.proofs.lemmas.Int.{to_z-of_z}
use Rattle.std.proofs.lemmas.Result.{err_from_is_err_and}
use Rattle.tclrules.proofs.Leading.{continue_with}
use Rattle.tclforms.proofs.substitution.Leading.{given_stops, given_on}
use Rattle.tclcommands.proofs.Limits.{first_stops}
use Rattle.tclcommands.proofs.writing.increase.Goals as goal

pub returns-in_err-variable : goal.returns-in_err-variable
returns-in_err-variable c =
    let p = err_from_is_err_and c.from_residual.result c.from_residual.ensures.1 in
    rw (p.1, p.2) (λ most remaining r k x. given_stops _ _ _ _ c.in_err-variable.ensures)

pub returns-in_err-increment : goal.returns-in_err-increment
returns-in_err-increment c =
    let p = err_from_is_err_and c.from_residual-in_err-increment.result c.from_residual-in_err-increment.ensures.1 in
    rw (p.1, p.2) (λ most remaining r k x. continue_with (given_on _ _ _ _ c.in_ok-variable.ensures) (given_stops _ _ _ _ (first_stops _ _ _ c.in_err-increment.ensures)))

pub returns-in_err-sum : goal.returns-in_err-sum
returns-in_err-sum c =
    let p = err_from_is_err_and c.from_residual-in_err-sum.result c.from_residual-in_err-sum.ensures.1 in
    rw (p.1, p.2) (λ most remaining r k x. continue_with (given_on _ _ _ _ c.in_ok-variable.ensures) (rw c.in_ok-increment.ensures (c.in_err-sum.ensures most remaining r k x)))

pub returns : goal.returns
returns c =
    let fits : FitsSigned w64 c.in_ok-sum.sum = search rules in
    λ most remaining r k x. rw (to_z-of_z w64 c.in_ok-sum.sum fits)
    (continue_with (given_on _ _ _ _ c.in_ok-variable.ensures)
    (rw c.in_ok-increment.ensures (c.in_ok-sum.ensures most remaining r k x)))
