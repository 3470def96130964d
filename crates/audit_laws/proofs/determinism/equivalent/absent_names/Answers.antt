use Rattle.envvars.specs.Texts.{slice_texts}
use Rattle.modulefile.specs.RecordViews.{record_view}
use Rattle.reversal.specs.VariableUses.{absent_by}
use Rattle.audit_laws.proofs.determinism.Seen.{kept_more}
use Rattle.audit_laws.proofs.determinism.equivalent.absent_names.Goals as goal

pub loop-recorded-preserved : goal.loop-recorded-preserved
loop-recorded-preserved c =
    kept_more absent_by record_view c.args.records.now c.loop-recorded.recorded-index c.recorded-item.result
    (slice_texts c.loop-recorded.names.items) (slice_texts c.push_absent.new.names.items) c.loop-recorded-test.true
    c.recorded-item.is c.loop-recorded.invariant c.in_ok-push_absent.ensures
