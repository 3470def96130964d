use Rattle.std.proofs.Common.{sym}
use Rattle.tcltext.proofs.expr.OperandSound.{number_end}
use Rattle.tcltext.proofs.expr.operand.read_numeric.Goals as goal

pub taken-requires-clause-rest : goal.taken-requires-clause-rest
taken-requires-clause-rest g c = number_end c.args.text.now c.in-Some.rest.now (sym c.in-Some.ensures)
