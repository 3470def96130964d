use Rattle.std.proofs.Common.{◌≤◌, length, arith}
use Rattle.std.proofs.lemmas.Result.{err_from_is_err_and}
use Rattle.tcltext.specs.script.Tree.{part_nesting}
use Rattle.tcltext.specs.script.View.{part_view}
use Rattle.tcltext.specs.script.Reading.{inner_at, dollar_at}
use Rattle.tcltext.specs.expr.View.{operand_view}
use Rattle.tcltext.proofs.expr.OperandSteps.{substituted-read, substituted-fails, dollar_deep}
use Rattle.tcltext.proofs.expr.operand.read_variable.Goals as goal

pub returns-in_err-operand : goal.returns-in_err-operand
returns-in_err-operand g c =
    let shown = g.S.Source.shown c.args.source.now in
    let p = err_from_is_err_and c.from_residual-in_err-operand.result c.from_residual-in_err-operand.ensures.1 in
    let deep : part_nesting (part_view shown c.in_ok-part.part) ≤ c.args.depth = dollar_deep c.args.depth
    c.args.following.now (part_view shown c.in_ok-part.part) c.in_ok-part.rest.now c.in_ok-part.ensures in
    let small : part_nesting (part_view shown c.in_ok-part.part) ≤ 18446744073709551615 = omega arith in
    rw (p.1, p.2) (substituted-fails (length c.args.text.now) (dollar_at (inner_at c.args.depth) c.args.following.now)
    (part_view shown c.in_ok-part.part) c.in_ok-part.rest.now c.in_err-operand.field-0.0 c.in_ok-part.ensures
    (c.in_err-operand.ensures shown small))

pub returns : goal.returns
returns g c =
    let shown = g.S.Source.shown c.args.source.now in
    let deep : part_nesting (part_view shown c.in_ok-part.part) ≤ c.args.depth = dollar_deep c.args.depth
    c.args.following.now (part_view shown c.in_ok-part.part) c.in_ok-part.rest.now c.in_ok-part.ensures in
    let small : part_nesting (part_view shown c.in_ok-part.part) ≤ 18446744073709551615 = omega arith in
    substituted-read (length c.args.text.now) (dollar_at (inner_at c.args.depth) c.args.following.now)
    (part_view shown c.in_ok-part.part) c.in_ok-part.rest.now
    (operand_view shown c.in_ok-operand.operand, c.in_ok-operand.height) c.in_ok-part.ensures
    (c.in_ok-operand.ensures shown small)
