use Rattle.audit_laws.proofs.site.ChangesAgree.{changes_agree}
use Rattle.audit_laws.proofs.site.ChangesLeaveReads.{changes_leave_reads}
use Rattle.audit_laws.proofs.site.laws.changes_agree.Goals as goal

pub returns-clause-uses : goal.returns-clause-uses
returns-clause-uses c = changes_agree c.one_change.ensures c.files.ensures.allowed

pub returns-clause-reads : goal.returns-clause-reads
returns-clause-reads c = changes_leave_reads c.files.ensures.one
