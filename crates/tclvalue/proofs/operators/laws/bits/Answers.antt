use Rattle.tclvalue.proofs.operators.BitLemmas.{both_bits, either_bits, one_bits, others_bit, given_by_bits}
use Rattle.tclvalue.proofs.operators.laws.bits.Goals as goal

pub returns-clause-both : goal.returns-clause-both
returns-clause-both c = both_bits

pub returns-clause-either : goal.returns-clause-either
returns-clause-either c = either_bits

pub returns-clause-one : goal.returns-clause-one
returns-clause-one c = one_bits

pub returns-clause-others : goal.returns-clause-others
returns-clause-others c = others_bit

pub returns-clause-given : goal.returns-clause-given
returns-clause-given c = given_by_bits
