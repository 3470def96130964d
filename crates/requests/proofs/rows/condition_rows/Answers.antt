use Rattle.std.proofs.Common.{refl}
use Rattle.requests.proofs.rows.condition_rows.Goals as goal

pub returns-clause-own : goal.returns-clause-own
returns-clause-own c = refl

pub returns-clause-recorded : goal.returns-clause-recorded
returns-clause-recorded c = refl

pub returns-clause-lost : goal.returns-clause-lost
returns-clause-lost c = refl

pub returns-clause-never_met : goal.returns-clause-never_met
returns-clause-never_met c = refl
