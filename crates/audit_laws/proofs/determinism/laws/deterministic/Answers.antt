use Rattle.audit_laws.proofs.determinism.Settling.{deterministic_files}
use Rattle.audit_laws.proofs.determinism.laws.deterministic.Goals as goal

pub returns : goal.returns
returns c = deterministic_files c.answered.ensures
