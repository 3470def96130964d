use Rattle.std.proofs.Common.{◌++◌, ◌<◌, ◌≤◌, length, string_bytes, ap, arith}
use Rattle.std.proofs.lemmas.Result.{err_from_is_err_and}
use Rattle.tclrules.proofs.Leading.{starve}
use Rattle.tclforms.proofs.substitution.Leading.{sized_on, sized_stops}
use Rattle.tclforms.proofs.substitution.substitution.append_piece.Goals as goal

pub returns-in_err-text : goal.returns-in_err-text
returns-in_err-text g c =
    let p = err_from_is_err_and c.from_residual.result c.from_residual.ensures.1 in
    rw (p.1, p.2, c.in_err-text.ensures.err) (λ most used remaining scripts r k. starve, tt)

pub returns-then-len-context : goal.returns-then-len-context
returns-then-len-context g c =
    let h : c.args.context.limits.value_bytes < length (string_bytes c.args.text ++ c.args.piece.now) = omega (arith, ap length c.in_ok-text.ensures.ok, c.len.ensures, c.if-len-context.true) in
    (λ most used remaining scripts r k. sized_stops _ _ _ h, tt)

pub returns : goal.returns
returns g c =
    let h : length (string_bytes c.args.text ++ c.args.piece.now) ≤ c.args.context.limits.value_bytes = omega (arith, ap length c.in_ok-text.ensures.ok, c.len.ensures, c.if-len-context.false) in
    (λ most used remaining scripts r k. rw c.in_ok-text.ensures.ok (sized_on _ _ _ h), omega arith)
