use Rattle.audit_certificate.proofs.Recorded.{entries_have_conflicts}
use Rattle.audit_certificate.proofs.laws.conflicts.Goals as goal

pub returns : goal.returns
returns c = entries_have_conflicts
