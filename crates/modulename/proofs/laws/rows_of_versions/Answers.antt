use Rattle.std.proofs.Common.{refl}
use Rattle.modulename.proofs.laws.rows_of_versions.Goals as goal

pub returns-clause-numbers : goal.returns-clause-numbers
returns-clause-numbers c = refl

pub returns-clause-zeros : goal.returns-clause-zeros
returns-clause-zeros c = refl

pub returns-clause-long : goal.returns-clause-long
returns-clause-long c = refl
