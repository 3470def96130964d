use Rattle.std.proofs.Common.{rules}
use Rattle.tcltext.specs.expr.Operands.{after_number}
use Rattle.tcltext.proofs.expr.numbers.after_number.Goals as goal

pub returns-in-Some : goal.returns-in-Some
unfolding after_number
returns-in-Some c = search rules

pub returns-in-None : goal.returns-in-None
unfolding after_number
returns-in-None c = search rules
