use Rattle.std.proofs.Common.{refl}
use Rattle.audit_laws.proofs.returns.rows.needs.Goals as goal

pub returns-clause-lost : goal.returns-clause-lost
returns-clause-lost c = refl

pub returns-clause-another : goal.returns-clause-another
returns-clause-another c = refl

pub returns-clause-unmet : goal.returns-clause-unmet
returns-clause-unmet c = refl

pub returns-clause-both : goal.returns-clause-both
returns-clause-both c = refl
