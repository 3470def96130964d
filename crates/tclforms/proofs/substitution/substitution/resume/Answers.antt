use Rattle.std.proofs.Common.{◌<◌, ◌≤◌, length, string_bytes, arith, rules}
use Rattle.std.proofs.lemmas.Result.{err_from_is_err_and}
use Rattle.tclrules.proofs.Leading.{stay, starve}
use Rattle.tclforms.proofs.substitution.Trees.{on_top, less_more}
use Rattle.tclforms.proofs.substitution.Leading.{given_stops, sized_on, sized_stops}
use Rattle.tclforms.proofs.substitution.substitution.resume.Goals as goal

pub read_element-requires-text-name : goal.read_element-requires-text-name
read_element-requires-text-name g c = search rules

pub returns-in_err-value-in-Element : goal.returns-in_err-value-in-Element
returns-in_err-value-in-Element g c =
    let p = err_from_is_err_and c.from_residual.result c.from_residual.ensures.1 in
    let h = rw c.as_str.ensures.value at c.in_err-value-in-Element.ensures in
    rw (p.1, p.2, c.in-Element.is) (λ most used remaining scripts r k. h most used scripts r _, tt)

pub returns-in-Element : goal.returns-in-Element
returns-in-Element g c =
    let h = rw c.as_str.ensures.value at c.in_ok-value-in-Element.ensures in
    rw c.in-Element.is (λ most used remaining scripts r k. h most used scripts r _, omega arith)

pub returns-in-Joined : goal.returns-in-Joined
returns-in-Joined g c =
    let h = rw c.as_str-in-Joined.ensures.value at c.append_piece.ensures in
    rw c.in-Joined.is (h.0, less_more _ _ _ _ _ h.1 (omega arith))

pub returns-then-len-context : goal.returns-then-len-context
returns-then-len-context g c =
    let h : c.args.context.limits.value_bytes < length (string_bytes c.args.value) = omega (arith, c.len.ensures, c.if-len-context.true) in
    rw c.in-Operand.is (λ most used remaining scripts r k. sized_stops _ _ _ h, tt)

pub returns-in-Operand : goal.returns-in-Operand
returns-in-Operand g c =
    let h : length (string_bytes c.args.value) ≤ c.args.context.limits.value_bytes = omega (arith, c.len.ensures, c.if-len-context.false) in
    rw c.in-Operand.is (λ most used remaining scripts r k. sized_on _ _ _ h, omega arith)

pub returns-in_err-unary-in-Unary : goal.returns-in_err-unary-in-Unary
returns-in_err-unary-in-Unary g c =
    let p = err_from_is_err_and c.from_residual-in_err-unary-in-Unary.result c.from_residual-in_err-unary-in-Unary.ensures.1 in
    let h = rw c.as_str-in-Unary.ensures.value at c.in_err-unary-in-Unary.ensures in
    rw (p.1, p.2, c.in-Unary.is) (λ most used remaining scripts r k. given_stops _ _ _ _ h, tt)

pub returns-in-Unary : goal.returns-in-Unary
returns-in-Unary g c =
    let h = rw c.as_str-in-Unary.ensures.value at c.in_ok-unary-in-Unary.ensures in
    rw (c.in-Unary.is, h) (λ most used remaining scripts r k. stay, omega arith)

pub returns-in_err-push_frame-in-Left : goal.returns-in_err-push_frame-in-Left
returns-in_err-push_frame-in-Left g c =
    let p = err_from_is_err_and c.from_residual-in_err-push_frame-in-Left.result c.from_residual-in_err-push_frame-in-Left.ensures.1 in
    rw (p.1, p.2, c.in_err-push_frame-in-Left.ensures.err) (λ most used remaining scripts r k. starve, tt)

pub returns-in-Left : goal.returns-in-Left
returns-in-Left g c =
    let t = on_top _ _ _ c.in_ok-push_frame-in-Left.ensures.ok in
    rw (c.in-Left.is, t) (λ most used remaining scripts r k. stay, omega arith)

pub returns-in_err-value-in-Right : goal.returns-in_err-value-in-Right
returns-in_err-value-in-Right g c =
    let p = err_from_is_err_and c.from_residual-in_err-value-in-Right.result c.from_residual-in_err-value-in-Right.ensures.1 in
    let h = rw (c.as_str-in-Right.ensures.value, c.as_str-in-Right-2.ensures.value) at c.in_err-value-in-Right.ensures in
    rw (p.1, p.2, c.in-Right.is) (λ most used remaining scripts r k. given_stops _ _ _ _ h, tt)

pub returns-in-Right : goal.returns-in-Right
returns-in-Right g c =
    let h = rw (c.as_str-in-Right.ensures.value, c.as_str-in-Right-2.ensures.value) at c.in_ok-value-in-Right.ensures in
    rw (c.in-Right.is, h) (λ most used remaining scripts r k. stay, omega arith)

pub returns-in-And : goal.returns-in-And
returns-in-And g c =
    rw c.in-And.is (c.and.ensures.0, less_more _ _ _ _ _ c.and.ensures.1 (omega arith))

pub returns-in-Or : goal.returns-in-Or
returns-in-Or g c =
    rw c.in-Or.is (c.or.ensures.0, less_more _ _ _ _ _ c.or.ensures.1 (omega arith))

pub returns-in_err-holds-in-Truth : goal.returns-in_err-holds-in-Truth
returns-in_err-holds-in-Truth g c =
    let p = err_from_is_err_and c.from_residual-in_err-holds-in-Truth.result c.from_residual-in_err-holds-in-Truth.ensures.1 in
    let h = rw c.as_str-in-Truth.ensures.value at c.in_err-holds-in-Truth.ensures in
    rw (p.1, p.2, c.in-Truth.is) (λ most used remaining scripts r k. given_stops _ _ _ _ h, tt)

pub returns-in_err-truth_text-in-Truth : goal.returns-in_err-truth_text-in-Truth
returns-in_err-truth_text-in-Truth g c =
    let p = err_from_is_err_and c.from_residual-in_err-truth_text-in-Truth.result c.from_residual-in_err-truth_text-in-Truth.ensures.1 in
    rw (p.1, p.2, c.in_err-truth_text-in-Truth.ensures.err) (λ most used remaining scripts r k. starve, tt)

pub returns-in-Truth : goal.returns-in-Truth
returns-in-Truth g c =
    let h = rw c.as_str-in-Truth.ensures.value at c.in_ok-holds-in-Truth.ensures in
    rw (c.in-Truth.is, h, c.in_ok-truth_text-in-Truth.ensures.ok) (λ most used remaining scripts r k. stay, omega arith)

pub returns : goal.returns
returns g c =
    rw c.in-Choice.is (c.choice.ensures.0, less_more _ _ _ _ _ c.choice.ensures.1 (omega arith))
