use Rattle.audit_certificate.proofs.CertifiedOnes.{certified_are_exact, certified_are_unique, certified_in_any_order}
use Rattle.audit_certificate.proofs.CertifiedOnes.{certified_apart, certified_most}
use Rattle.audit_certificate.proofs.laws.certified.Goals as goal

pub returns-clause-exact : goal.returns-clause-exact
returns-clause-exact c = certified_are_exact

pub returns-clause-unique : goal.returns-clause-unique
returns-clause-unique c = certified_are_unique

pub returns-clause-any_order : goal.returns-clause-any_order
returns-clause-any_order c = certified_in_any_order

pub returns-clause-together : goal.returns-clause-together
returns-clause-together c = certified_apart

pub returns-clause-most : goal.returns-clause-most
returns-clause-most c = certified_most
