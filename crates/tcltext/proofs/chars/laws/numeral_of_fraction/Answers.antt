use Rattle.tcltext.proofs.chars.Fractions.{is_fractional, fraction_read}
use Rattle.tcltext.proofs.chars.laws.numeral_of_fraction.Goals as goal

pub returns : goal.returns
returns c = λ t. (is_fractional t, fraction_read t)
