use Rattle.audit_certificate.proofs.Agreements.{agreement_is_of_each, disagreement_is_of_one, disagreements_refute}
use Rattle.audit_certificate.proofs.Runs.{loaded_stay_loaded}
use Rattle.audit_certificate.proofs.laws.agreements.Goals as goal

pub returns-clause-each : goal.returns-clause-each
returns-clause-each c = agreement_is_of_each

pub returns-clause-one : goal.returns-clause-one
returns-clause-one c = disagreement_is_of_one

pub returns-clause-refuted : goal.returns-clause-refuted
returns-clause-refuted c = disagreements_refute

pub returns-clause-loaded : goal.returns-clause-loaded
returns-clause-loaded c = loaded_stay_loaded
