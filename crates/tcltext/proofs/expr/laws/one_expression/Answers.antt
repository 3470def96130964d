use Rattle.tcltext.proofs.expr.Whole.{unique}
use Rattle.tcltext.proofs.expr.laws.one_expression.Goals as goal

pub returns : goal.returns
returns c = unique
