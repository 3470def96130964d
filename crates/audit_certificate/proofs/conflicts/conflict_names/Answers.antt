use Rattle.modulefile.specs.RecordViews.{record_view}
use Rattle.audit_certificate.specs.Conflicts.{has_name}
use Rattle.audit_certificate.proofs.ConflictLemmas.{conflicts_turn}
use Rattle.audit_certificate.proofs.conflicts.conflict_names.Goals as goal

pub loop-recorded-preserved : goal.loop-recorded-preserved
loop-recorded-preserved c = λ name.
    conflicts_turn record_view name (has_name c.loop-recorded.names name) (has_name c.enter_conflict.new.entered name)
    c.args.records.now c.loop-recorded.recorded-index c.recorded-item.result c.loop-recorded-test.true
    c.recorded-item.is
    (c.in_ok-enter_conflict.ensures name) (c.loop-recorded.invariant name)
