use Rattle.std.proofs.Common.{◌≡◌, map, take}
use Rattle.modulefile.specs.RecordViews.{record_view}
use Rattle.reversal.specs.Undone.{undo_of}
use Rattle.audit_laws.specs.determinism.ContextViews.{undone_view}
use Rattle.audit_laws.proofs.determinism.undone.undo_of.Given as goal

abbrev pub invariant-loop-recorded : goal.invariant-loop-recorded
invariant-loop-recorded l = map undone_view l.seen.items ≡ undo_of (map record_view (take l.recorded-index l.records))
