use Rattle.std.proofs.Common.{refl}
use Rattle.tcltext.specs.chars.Numerals.{numeral}
use Rattle.tclcommands.proofs.increment.Increment.whole_number.Goals as goal

pub returns-in-One : goal.returns-in-One
unfolding numeral
returns-in-One c = rw c.in-One.is refl
