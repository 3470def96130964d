use Rattle.std.proofs.Common.{◌≡◌, FitsSigned, w64, string_bytes, sym, rules}
use Rattle.std.proofs.lemmas.Result.{err_from_is_err_and}
use Rattle.std.proofs.lemmas.Int.{to_z-of_z}
use Rattle.std.specs.Fmt.{signed_decimal}
use Rattle.tclrules.proofs.Leading.{continue_with, starve}
use Rattle.tclforms.proofs.substitution.Leading.{given_stops, given_on}
use Rattle.tclcommands.proofs.writing.increase_anew.Goals as goal

pub write_at-requires : goal.write_at-requires
write_at-requires c = search rules

pub returns-in_err-sum : goal.returns-in_err-sum
returns-in_err-sum c =
    let p = err_from_is_err_and c.from_residual.result c.from_residual.ensures.1 in
    let h = rw (c.value_or.ensures, c.text.ensures) at c.in_err-sum.ensures in
    rw (p.1, p.2) (λ most remaining r k x. given_stops _ _ _ _ h)

pub returns-in_err-value : goal.returns-in_err-value
returns-in_err-value c =
    let p = err_from_is_err_and c.from_residual-in_err-value.result c.from_residual-in_err-value.ensures.1 in
    rw (p.1, p.2) (λ most remaining r k x. starve)

pub returns-in_err-write_at : goal.returns-in_err-write_at
returns-in_err-write_at c =
    let p = err_from_is_err_and c.from_residual-in_err-write_at.result c.from_residual-in_err-write_at.ensures.1 in
    let h = rw (c.value_or.ensures, c.text.ensures) at c.in_ok-sum.ensures in
    let fits : FitsSigned w64 c.in_ok-sum.sum = search rules in
    let t : signed_decimal c.in_ok-sum.sum ≡ string_bytes c.in_ok-value.value = sym (rw (to_z-of_z w64 c.in_ok-sum.sum fits) at c.in_ok-value.ensures) in
    let g = c.take_text-old.ensures.given_back (string_bytes c.in_ok-value.value) in
    rw (p.1, p.2) (λ most remaining r k x. continue_with (given_on _ _ _ _ h) (rw (t, ← g) (c.in_err-write_at.ensures.continues most remaining r k x)))

pub returns : goal.returns
returns c =
    let h = rw (c.value_or.ensures, c.text.ensures) at c.in_ok-sum.ensures in
    let u = string_bytes c.in_ok-value.value in
    let fits : FitsSigned w64 c.in_ok-sum.sum = search rules in
    let t : signed_decimal c.in_ok-sum.sum ≡ u = sym (rw (to_z-of_z w64 c.in_ok-sum.sum fits) at c.in_ok-value.ensures) in
    let g = c.take_text-old.ensures.given_back u in
    λ most remaining r k x. rw (to_z-of_z w64 c.in_ok-sum.sum fits, t) (continue_with (given_on _ _ _ _ h) (rw (t, ← g) (c.in_ok-write_at.ensures.continues most remaining r k x)))
