use Rattle.tcltext.proofs.chars.NumberLemmas.{DigitsSoFar}
use Rattle.tcltext.proofs.chars.number.digits_in.Given as goal

abbrev pub invariant-loop-digit : goal.invariant-loop-digit
invariant-loop-digit l = DigitsSoFar l.base l.digits l.digit-index l.n
