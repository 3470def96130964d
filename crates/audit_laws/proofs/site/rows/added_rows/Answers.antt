use Rattle.std.proofs.Common.{refl}
use Rattle.audit_laws.proofs.site.rows.added_rows.Goals as goal

pub returns-clause-front : goal.returns-clause-front
returns-clause-front c = refl

pub returns-clause-both_ends : goal.returns-clause-both_ends
returns-clause-both_ends c = refl

pub returns-clause-other_delimiter : goal.returns-clause-other_delimiter
returns-clause-other_delimiter c = refl

pub returns-clause-no_name : goal.returns-clause-no_name
returns-clause-no_name c = refl
