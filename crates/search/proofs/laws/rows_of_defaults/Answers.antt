use Rattle.std.proofs.Common.{refl}
use Rattle.search.proofs.laws.rows_of_defaults.Goals as goal

pub returns-clause-named : goal.returns-clause-named
returns-clause-named c = refl

pub returns-clause-last : goal.returns-clause-last
returns-clause-last c = refl

pub returns-clause-slash : goal.returns-clause-slash
returns-clause-slash c = refl

pub returns-clause-other : goal.returns-clause-other
returns-clause-other c = refl
