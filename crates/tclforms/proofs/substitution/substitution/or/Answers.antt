use Rattle.std.proofs.Common.{◌≡◌, string_bytes, Ok, true, false, ap, ◌∙◌, arith}
use Rattle.std.proofs.lemmas.Result.{err_from_is_err_and}
use Rattle.tclvalue.specs.operators.Operators.{truth}
use Rattle.tclrules.proofs.Leading.{stay, starve}
use Rattle.tclforms.proofs.substitution.Trees.{on_top}
use Rattle.tclforms.proofs.substitution.Leading.{given_stops}
use Rattle.tclforms.proofs.substitution.substitution.or.Goals as goal

pub returns-in_err-truth : goal.returns-in_err-truth
returns-in_err-truth g c =
    let p = err_from_is_err_and c.from_residual.result c.from_residual.ensures.1 in
    let h = rw c.as_str.ensures.value at c.in_err-truth.ensures in
    rw (p.1, p.2) (λ most used remaining scripts r k. given_stops _ _ _ _ h, tt)

pub returns-in_err-push_frame : goal.returns-in_err-push_frame
returns-in_err-push_frame g c =
    let p = err_from_is_err_and c.from_residual-in_err-push_frame.result c.from_residual-in_err-push_frame.ensures.1 in
    rw (p.1, p.2, c.in_err-push_frame.ensures.err) (λ most used remaining scripts r k. starve, tt)

pub returns-in_err-copy : goal.returns-in_err-copy
returns-in_err-copy g c =
    let p = err_from_is_err_and c.from_residual-in_err-copy.result c.from_residual-in_err-copy.ensures.1 in
    rw (p.1, p.2, c.in_err-copy.ensures.err) (λ most used remaining scripts r k. starve, tt)

pub returns-then-branch : goal.returns-then-branch
returns-then-branch g c =
    let e : truth (string_bytes c.args.value) ≡ Ok true = (rw c.as_str.ensures.value at c.in_ok-truth.ensures) ∙ ap Ok c.if-branch.true in
    rw (e, c.in_ok-copy.ensures.ok) (λ most used remaining scripts r k. stay, omega arith)

pub returns : goal.returns
returns g c =
    let e : truth (string_bytes c.args.value) ≡ Ok false = (rw c.as_str.ensures.value at c.in_ok-truth.ensures) ∙ ap Ok c.if-branch.false in
    let t = on_top _ _ _ c.in_ok-push_frame.ensures.ok in
    rw (e, t) (λ most used remaining scripts r k. stay, omega arith)
