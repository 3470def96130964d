use Rattle.std.proofs.Common.{◌≤◌, length, arith}
use Rattle.std.proofs.lemmas.Result.{err_from_is_err_and}
use Rattle.tcltext.specs.script.Tree.{part_nesting}
use Rattle.tcltext.specs.script.View.{part_view}
use Rattle.tcltext.specs.script.Reading.{inner_at, bracket_at}
use Rattle.tcltext.proofs.script.Ends.{end_through, end_mark}
use Rattle.tcltext.specs.expr.View.{operand_view}
use Rattle.tcltext.proofs.expr.OperandSteps.{substituted-read, substituted-fails, bracket_deep}
use Rattle.tcltext.proofs.expr.operand.read_script.Goals as goal

pub returns-in_err-operand : goal.returns-in_err-operand
returns-in_err-operand g c =
    let shown = g.S.Source.shown c.args.source.now in
    let p = err_from_is_err_and c.from_residual-in_err-operand.result c.from_residual-in_err-operand.ensures.1 in
    let deep : part_nesting (part_view shown c.in_ok-part.part) ≤ c.args.depth = bracket_deep c.args.depth
    c.args.following.now (part_view shown c.in_ok-part.part) c.in_ok-part.rest.now c.in_ok-part.ensures in
    let small : part_nesting (part_view shown c.in_ok-part.part) ≤ 18446744073709551615 = omega arith in
    rw (p.1, p.2) (substituted-fails (length c.args.text.now) (bracket_at (inner_at c.args.depth) c.args.following.now)
    (part_view shown c.in_ok-part.part) c.in_ok-part.rest.now c.in_err-operand.field-0.0 c.in_ok-part.ensures
    (c.in_err-operand.ensures shown small))

pub returns : goal.returns
returns g c =
    let shown = g.S.Source.shown c.args.source.now in
    let deep : part_nesting (part_view shown c.in_ok-part.part) ≤ c.args.depth = bracket_deep c.args.depth
    c.args.following.now (part_view shown c.in_ok-part.part) c.in_ok-part.rest.now c.in_ok-part.ensures in
    let small : part_nesting (part_view shown c.in_ok-part.part) ≤ 18446744073709551615 = omega arith in
    substituted-read (length c.args.text.now) (bracket_at (inner_at c.args.depth) c.args.following.now)
    (part_view shown c.in_ok-part.part) c.in_ok-part.rest.now
    (operand_view shown c.in_ok-operand.operand, c.in_ok-operand.height) c.in_ok-part.ensures
    (c.in_ok-operand.ensures shown small)

pub read_bracket-requires : goal.read_bracket-requires
read_bracket-requires g c = end_through (g.S.Source.text c.args.source.now) c.args.text.now c.args.following.now c.requires.text (end_mark c.args.text.now 91 c.args.following.now c.requires.bracket)
