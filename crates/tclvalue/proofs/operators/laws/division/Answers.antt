use Rattle.tclvalue.proofs.operators.DivisionLemmas.{whole_is, rest_is}
use Rattle.tclvalue.proofs.operators.laws.division.Goals as goal

pub returns-clause-whole : goal.returns-clause-whole
returns-clause-whole c = whole_is

pub returns-clause-rest : goal.returns-clause-rest
returns-clause-rest c = rest_is
