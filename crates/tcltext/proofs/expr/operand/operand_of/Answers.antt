use Rattle.tcltext.proofs.expr.OperandSteps.{indexed-of, bracket-of}
use Rattle.tcltext.proofs.expr.operand.operand_of.Goals as goal

pub returns-in-Indexed : goal.returns-in-Indexed
returns-in-Indexed g c = λ shown small.
    indexed-of shown c.args.part c.in-Indexed.name c.in-Indexed.parts c.args.remaining c.parts_nesting.result
    c.one_deeper-height.result 18446744073709551615 c.in-Indexed.is small (c.parts_nesting.ensures shown)
    c.one_deeper-height.ensures

pub returns-in-Bracket : goal.returns-in-Bracket
returns-in-Bracket g c = λ shown small.
    bracket-of shown c.args.part c.in-Bracket.script c.args.remaining c.script_nesting.result
    c.one_deeper-height-in-Bracket.result 18446744073709551615 c.in-Bracket.is small
    (c.script_nesting.ensures shown) c.one_deeper-height-in-Bracket.ensures
