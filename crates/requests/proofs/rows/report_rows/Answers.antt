use Rattle.std.proofs.Common.{refl}
use Rattle.requests.proofs.rows.report_rows.Goals as goal

pub returns-clause-list : goal.returns-clause-list
returns-clause-list c = refl

pub returns-clause-avail : goal.returns-clause-avail
returns-clause-avail c = refl

pub returns-clause-selected : goal.returns-clause-selected
returns-clause-selected c = refl
