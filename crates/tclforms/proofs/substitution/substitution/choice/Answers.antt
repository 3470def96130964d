use Rattle.std.proofs.Common.{◌≡◌, string_bytes, Ok, true, false, ap, ◌∙◌, arith}
use Rattle.std.proofs.lemmas.Result.{err_from_is_err_and}
use Rattle.tclvalue.specs.operators.Operators.{truth}
use Rattle.tclrules.proofs.Leading.{stay}
use Rattle.tclforms.proofs.substitution.Leading.{given_stops}
use Rattle.tclforms.proofs.substitution.substitution.choice.Goals as goal

pub returns-in_err-truth : goal.returns-in_err-truth
returns-in_err-truth g c =
    let p = err_from_is_err_and c.from_residual.result c.from_residual.ensures.1 in
    let h = rw c.as_str.ensures.value at c.in_err-truth.ensures in
    rw (p.1, p.2) (λ most used remaining scripts r k. given_stops _ _ _ _ h, tt)

pub returns-then-branch : goal.returns-then-branch
returns-then-branch g c =
    let e : truth (string_bytes c.args.value) ≡ Ok true = (rw c.as_str.ensures.value at c.in_ok-truth.ensures) ∙ ap Ok c.if-branch.true in
    rw e (λ most used remaining scripts r k. stay, omega arith)

pub returns : goal.returns
returns g c =
    let e : truth (string_bytes c.args.value) ≡ Ok false = (rw c.as_str.ensures.value at c.in_ok-truth.ensures) ∙ ap Ok c.if-branch.false in
    rw e (λ most used remaining scripts r k. stay, omega arith)
