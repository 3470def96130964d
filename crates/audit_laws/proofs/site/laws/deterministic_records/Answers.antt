use Rattle.audit_laws.proofs.site.DeterministicRecords.{deterministic_records}
use Rattle.audit_laws.proofs.site.laws.deterministic_records.Goals as goal

pub returns : goal.returns
returns c = deterministic_records c.deterministic.ensures c.undone.ensures
