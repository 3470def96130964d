use Rattle.std.proofs.Common.{refl}
use Rattle.requests.proofs.rows.request_rows.Goals as goal

pub returns-clause-load : goal.returns-clause-load
returns-clause-load c = refl

pub returns-clause-switch_one : goal.returns-clause-switch_one
returns-clause-switch_one c = refl

pub returns-clause-switch_two : goal.returns-clause-switch_two
returns-clause-switch_two c = refl

pub returns-clause-purge : goal.returns-clause-purge
returns-clause-purge c = refl

pub returns-clause-unknown : goal.returns-clause-unknown
returns-clause-unknown c = refl
