use Rattle.std.proofs.Common.{◌≤◌, arith}
use Rattle.std.proofs.lemmas.Result.{err_from_is_err_and}
use Rattle.tcltext.specs.script.Tree.{parts_nesting}
use Rattle.tcltext.specs.script.View.{parts_view}
use Rattle.tcltext.proofs.expr.OperandSteps.{quoted-read, quoted-fails, quotes_deep}
use Rattle.tcltext.proofs.expr.operand.read_quoted.Goals as goal

pub returns-in_err-parts : goal.returns-in_err-parts
returns-in_err-parts g c =
    let p = err_from_is_err_and c.from_residual.result c.from_residual.ensures.1 in
    rw (p.1, p.2) (quoted-fails c.args.depth c.args.text.now c.in_err-parts.field-0.0 c.in_err-parts.ensures)

pub returns : goal.returns
returns g c =
    let shown = g.S.Source.shown c.args.source.now in
    let ps = parts_view shown c.in_ok-parts.parts.items in
    let deep : parts_nesting (parts_view shown c.in_ok-parts.parts.items) ≤ c.args.depth = quotes_deep c.args.depth
    c.args.text.now (parts_view shown c.in_ok-parts.parts.items) c.in_ok-parts.rest.now c.in_ok-parts.ensures in
    let small : parts_nesting (parts_view shown c.in_ok-parts.parts.items) ≤ 18446744073709551615 = omega arith in
    quoted-read c.args.depth c.args.text.now (parts_view shown c.in_ok-parts.parts.items) c.in_ok-parts.rest.now
    c.parts_nesting-height.result c.in_ok-parts.ensures (c.parts_nesting-height.ensures shown small)
