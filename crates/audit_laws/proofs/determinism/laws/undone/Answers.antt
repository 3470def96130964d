use Rattle.audit_laws.proofs.determinism.UndoTested.{undo_is_tested}
use Rattle.audit_laws.proofs.determinism.laws.undone.Goals as goal

pub returns : goal.returns
returns c = undo_is_tested
