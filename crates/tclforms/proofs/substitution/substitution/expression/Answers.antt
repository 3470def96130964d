use Rattle.std.proofs.Common.{ap, ◌∙◌, reverse, arith}
use Rattle.std.proofs.lemmas.Result.{err_from_is_err_and}
use Rattle.tcltext.specs.expr.View.{expr_view}
use Rattle.tclrules.proofs.Leading.{stay, continue_with, starve}
use Rattle.tclforms.specs.substitution.Machine.{range_text, bounds, stack_continuation}
use Rattle.tclforms.proofs.substitution.Leading.{given_on, given_stops}
use Rattle.tclforms.proofs.substitution.Trees.{view-Operand, view-Unary, view-Binary, view-And, view-Or, view-Choice, on_top}
use Rattle.tclforms.proofs.substitution.Trees.{less_more}
use Rattle.tclforms.proofs.substitution.substitution.expression.Goals as goal

pub returns-in_err-push_frame-in-Operand : goal.returns-in_err-push_frame-in-Operand
returns-in_err-push_frame-in-Operand g c =
    let p = err_from_is_err_and c.from_residual.result c.from_residual.ensures.1 in
    rw (p.1, p.2, c.in_err-push_frame-in-Operand.ensures.err) (λ most used remaining scripts r k. starve, tt)

pub returns-in_err-push_frame-in-Unary : goal.returns-in_err-push_frame-in-Unary
returns-in_err-push_frame-in-Unary g c =
    let p = err_from_is_err_and c.from_residual-in_err-push_frame-in-Unary.result c.from_residual-in_err-push_frame-in-Unary.ensures.1 in
    rw (p.1, p.2, c.in_err-push_frame-in-Unary.ensures.err) (λ most used remaining scripts r k. starve, tt)

pub returns-in_err-push_frame-in-Binary : goal.returns-in_err-push_frame-in-Binary
returns-in_err-push_frame-in-Binary g c =
    let p = err_from_is_err_and c.from_residual-in_err-push_frame-in-Binary.result c.from_residual-in_err-push_frame-in-Binary.ensures.1 in
    rw (p.1, p.2, c.in_err-push_frame-in-Binary.ensures.err) (λ most used remaining scripts r k. starve, tt)

pub returns-in_err-push_frame-in-And : goal.returns-in_err-push_frame-in-And
returns-in_err-push_frame-in-And g c =
    let p = err_from_is_err_and c.from_residual-in_err-push_frame-in-And.result c.from_residual-in_err-push_frame-in-And.ensures.1 in
    rw (p.1, p.2, c.in_err-push_frame-in-And.ensures.err) (λ most used remaining scripts r k. starve, tt)

pub returns-in_err-push_frame-in-Or : goal.returns-in_err-push_frame-in-Or
returns-in_err-push_frame-in-Or g c =
    let p = err_from_is_err_and c.from_residual-in_err-push_frame-in-Or.result c.from_residual-in_err-push_frame-in-Or.ensures.1 in
    rw (p.1, p.2, c.in_err-push_frame-in-Or.ensures.err) (λ most used remaining scripts r k. starve, tt)

pub returns-in_err-push_frame-in-Choice : goal.returns-in_err-push_frame-in-Choice
returns-in_err-push_frame-in-Choice g c =
    let p = err_from_is_err_and c.from_residual-in_err-push_frame-in-Choice.result c.from_residual-in_err-push_frame-in-Choice.ensures.1 in
    rw (p.1, p.2, c.in_err-push_frame-in-Choice.ensures.err) (λ most used remaining scripts r k. starve, tt)

pub returns-in_ok-push_frame-in-Operand : goal.returns-in_ok-push_frame-in-Operand
returns-in_ok-push_frame-in-Operand g c =
    let v = ap (expr_view (range_text c.args.context.source.now)) c.in-Operand.is ∙ view-Operand (range_text c.args.context.source.now) c.in-Operand.value in
    let t = on_top _ _ _ c.in_ok-push_frame-in-Operand.ensures.ok in
    let h = rw t at c.operand.ensures in
    rw v (h.0, less_more _ _ _ _ _ h.1 (omega arith))

pub returns-in_ok-push_frame-in-Unary : goal.returns-in_ok-push_frame-in-Unary
returns-in_ok-push_frame-in-Unary g c =
    let v = ap (expr_view (range_text c.args.context.source.now)) c.in-Unary.is ∙ view-Unary (range_text c.args.context.source.now) c.in-Unary.operator c.in-Unary.inner in
    let t = on_top _ _ _ c.in_ok-push_frame-in-Unary.ensures.ok in
    rw (v, t, c.deref.ensures) (λ most used remaining scripts r k. stay, omega arith)

pub returns-in_ok-push_frame-in-Binary : goal.returns-in_ok-push_frame-in-Binary
returns-in_ok-push_frame-in-Binary g c =
    let v = ap (expr_view (range_text c.args.context.source.now)) c.in-Binary.is ∙ view-Binary (range_text c.args.context.source.now) c.in-Binary.operator c.in-Binary.left c.in-Binary.right in
    let t = on_top _ _ _ c.in_ok-push_frame-in-Binary.ensures.ok in
    rw (v, t, c.deref-in-Binary.ensures, c.deref-in-Binary-2.ensures) (λ most used remaining scripts r k. stay, omega arith)

pub returns-in_ok-push_frame-in-And : goal.returns-in_ok-push_frame-in-And
returns-in_ok-push_frame-in-And g c =
    let v = ap (expr_view (range_text c.args.context.source.now)) c.in-And.is ∙ view-And (range_text c.args.context.source.now) c.in-And.left c.in-And.right in
    let t = on_top _ _ _ c.in_ok-push_frame-in-And.ensures.ok in
    rw (v, t, c.deref-in-And.ensures, c.deref-in-And-2.ensures) (λ most used remaining scripts r k. stay, omega arith)

pub returns-in_ok-push_frame-in-Or : goal.returns-in_ok-push_frame-in-Or
returns-in_ok-push_frame-in-Or g c =
    let v = ap (expr_view (range_text c.args.context.source.now)) c.in-Or.is ∙ view-Or (range_text c.args.context.source.now) c.in-Or.left c.in-Or.right in
    let t = on_top _ _ _ c.in_ok-push_frame-in-Or.ensures.ok in
    rw (v, t, c.deref-in-Or.ensures, c.deref-in-Or-2.ensures) (λ most used remaining scripts r k. stay, omega arith)

pub returns-in_ok-push_frame-in-Choice : goal.returns-in_ok-push_frame-in-Choice
returns-in_ok-push_frame-in-Choice g c =
    let v = ap (expr_view (range_text c.args.context.source.now)) c.in-Choice.is ∙ view-Choice (range_text c.args.context.source.now) c.in-Choice.condition c.in-Choice.yes c.in-Choice.no in
    let t = on_top _ _ _ c.in_ok-push_frame-in-Choice.ensures.ok in
    rw (v, t, c.deref-in-Choice.ensures, c.deref-in-Choice-2.ensures, c.deref-in-Choice-3.ensures) (λ most used remaining scripts r k. stay, omega arith)

pub returns-in_err-value-in-Binary : goal.returns-in_err-value-in-Binary
returns-in_err-value-in-Binary g c =
    let p = err_from_is_err_and c.from_residual-in_err-value-in-Binary.result c.from_residual-in_err-value-in-Binary.ensures.1 in
    rw (p.1, p.2) (λ most used remaining scripts r k. c.in_err-value-in-Binary.ensures.err most remaining r _ _, tt)

pub returns-in_err-text-in-Binary : goal.returns-in_err-text-in-Binary
returns-in_err-text-in-Binary g c =
    let p = err_from_is_err_and c.from_residual-in_err-text-in-Binary.result c.from_residual-in_err-text-in-Binary.ensures.1 in
    let made = rw c.in-Some.is at c.in_ok-value-in-Binary.ensures.some in
    rw (p.1, p.2) (
      λ most used remaining scripts r k.
          let next = stack_continuation c.args.context.source.now (bounds c.args.context.limits.value_bytes remaining) (reverse c.args.stack.now.items) k in
          continue_with (made most remaining r next _) (given_stops _ _ c.args.context.variables.now (λ t. next t c.args.context.variables.now) c.in_err-text-in-Binary.ensures),
      tt,
    )

pub returns-in-Some : goal.returns-in-Some
returns-in-Some g c =
    let v = ap (expr_view (range_text c.args.context.source.now)) c.in-Binary.is ∙ view-Binary (range_text c.args.context.source.now) c.in-Binary.operator c.in-Binary.left c.in-Binary.right in
    let made = rw c.in-Some.is at c.in_ok-value-in-Binary.ensures.some in (
      λ most used remaining scripts r k.
          let next = stack_continuation c.args.context.source.now (bounds c.args.context.limits.value_bytes remaining) (reverse c.args.stack.now.items) k in
          continue_with (made most remaining r next _) (given_on _ _ c.args.context.variables.now (λ t. next t c.args.context.variables.now) c.in_ok-text-in-Binary.ensures),
      rw v (omega arith),
    )
