use Rattle.std.proofs.Common.{◌∙◌}
use Rattle.tclvalue.proofs.operators.NumberLemmas.{shifted_is}
use Rattle.tclvalue.proofs.operators.BitLemmas.{shifted_quotient}
use Rattle.tclvalue.proofs.operators.operands.halved.Goals as goal

pub returns : goal.returns
returns c = shifted_is c.args.number c.args.times c.min.result c.ranges.number c.min.ensures ∙ shifted_quotient c.args.number c.args.times
