use Rattle.std.proofs.Common.{refl}
use Rattle.audit_laws.proofs.returns.rows.names.Goals as goal

pub returns-clause-own : goal.returns-clause-own
returns-clause-own c = refl

pub returns-clause-last : goal.returns-clause-last
returns-clause-last c = refl

pub returns-clause-none : goal.returns-clause-none
returns-clause-none c = refl

pub returns-clause-other : goal.returns-clause-other
returns-clause-other c = refl

pub returns-clause-other_named : goal.returns-clause-other_named
returns-clause-other_named c = refl
