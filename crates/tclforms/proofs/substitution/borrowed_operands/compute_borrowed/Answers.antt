use Rattle.std.proofs.Common.{ap, ◌∙◌}
use Rattle.std.proofs.lemmas.Result.{err_from_is_err_and}
use Rattle.tcltext.specs.expr.View.{expr_view}
use Rattle.tclforms.specs.substitution.Machine.{range_text}
use Rattle.tclforms.proofs.substitution.AtHand.{from_same}
use Rattle.tclforms.proofs.substitution.Leading.{given_on, given_stops}
use Rattle.tclforms.proofs.substitution.Trees.{view-Binary}
use Rattle.tclforms.proofs.substitution.borrowed_operands.compute_borrowed.Goals as goal

pub returns-in_err-made-clause-err : goal.returns-in_err-made-clause-err
returns-in_err-made-clause-err c =
    let v = ap (expr_view (range_text c.args.context.source.now)) c.in-Binary.is ∙ view-Binary (range_text c.args.context.source.now) c.in-Binary.operator c.in-Binary.left c.in-Binary.right in
    let p = err_from_is_err_and c.from_residual.result c.from_residual.ensures.1 in
    let first = rw c.deref.ensures at c.in-Some.ensures in
    let second = rw c.deref-2.ensures at c.in-Some-borrowed.ensures in
    let made = c.in_err-made.ensures in
    rw (p.1, p.2, v) (λ most remaining r k x. from_same (first remaining _ ∙ second remaining _) (given_stops _ _ _ _ made))

pub returns-clause-some : goal.returns-clause-some
returns-clause-some c =
    let v = ap (expr_view (range_text c.args.context.source.now)) c.in-Binary.is ∙ view-Binary (range_text c.args.context.source.now) c.in-Binary.operator c.in-Binary.left c.in-Binary.right in
    let first = rw c.deref.ensures at c.in-Some.ensures in
    let second = rw c.deref-2.ensures at c.in-Some-borrowed.ensures in
    let made = c.in_ok-made.ensures in
    rw v (λ most remaining r k x. from_same (first remaining _ ∙ second remaining _) (given_on _ _ _ _ made))
