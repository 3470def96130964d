use Rattle.audit_laws.proofs.site.Admissions.{steps_are_admitted, sessions_are_admitted}
use Rattle.audit_laws.proofs.site.laws.admissions.Goals as goal

pub returns-clause-steps : goal.returns-clause-steps
returns-clause-steps c = steps_are_admitted

pub returns-clause-sessions : goal.returns-clause-sessions
returns-clause-sessions c = sessions_are_admitted
