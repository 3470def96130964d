use Rattle.std.proofs.Common.{Ok, sym, ap, ◌∙◌, arith}
use Rattle.std.proofs.lemmas.Result.{err_from_is_err_and}
use Rattle.tcltext.specs.chars.Faults.{max_nesting}
use Rattle.tcltext.specs.expr.View.{expr_view, with_height_view}
use Rattle.tcltext.proofs.expr.Whole.{expr-fails, expr-ends, expr-left}
use Rattle.tcltext.proofs.expr.text.read_source.Goals as goal

pub returns-in_err-expression : goal.returns-in_err-expression
returns-in_err-expression g c =
    let p = err_from_is_err_and c.from_residual.result c.from_residual.ensures.1 in
    rw (p.1, p.2) (expr-fails max_nesting (g.S.Source.text c.args.source.now) c.as_str.result.now c.in_err-expression.field-0.0 c.as_str.ensures c.in_err-expression.ensures)

pub returns-then-remaining-eq0 : goal.returns-then-remaining-eq0
returns-then-remaining-eq0 g c =
    expr-ends max_nesting (g.S.Source.text c.args.source.now) c.as_str.result.now
    (with_height_view (g.S.Source.shown c.args.source.now) c.in_ok-expression.expression)
    c.in_ok-expression.rest.now c.skip_white-remaining.result.now
    c.as_str.ensures c.in_ok-expression.ensures c.skip_white-remaining.ensures (omega arith)
    ∙ ap (λ e. Ok (expr_view (g.S.Source.shown c.args.source.now) e)) (sym c.into_tree.ensures)

pub returns-else-remaining-eq0 : goal.returns-else-remaining-eq0
returns-else-remaining-eq0 g c =
    expr-left max_nesting (g.S.Source.text c.args.source.now) c.as_str.result.now
    (with_height_view (g.S.Source.shown c.args.source.now) c.in_ok-expression.expression)
    c.in_ok-expression.rest.now c.skip_white-remaining.result.now
    c.as_str.ensures c.in_ok-expression.ensures c.skip_white-remaining.ensures (omega arith)
