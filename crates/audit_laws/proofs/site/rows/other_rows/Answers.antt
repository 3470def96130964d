use Rattle.std.proofs.Common.{refl}
use Rattle.audit_laws.proofs.site.rows.other_rows.Goals as goal

pub returns-clause-other_variable : goal.returns-clause-other_variable
returns-clause-other_variable c = refl

pub returns-clause-fixed : goal.returns-clause-fixed
returns-clause-fixed c = refl

pub returns-clause-pushed : goal.returns-clause-pushed
returns-clause-pushed c = refl

pub returns-clause-removed : goal.returns-clause-removed
returns-clause-removed c = refl
