use Rattle.tcltext.proofs.chars.WholeNumbers.{whole_read, whole_found}
use Rattle.tcltext.proofs.chars.laws.numeral_of_whole.Goals as goal

pub returns-clause-value : goal.returns-clause-value
returns-clause-value c = whole_read

pub returns-clause-only : goal.returns-clause-only
returns-clause-only c = whole_found
