use Rattle.envvars.specs.Texts.{slice_texts}
use Rattle.std.proofs.lemmas.List.Concat.{flat_map-append}
use Rattle.modulefile.specs.Records.{conflicts_of, conflict_names}
use Rattle.modulefile.specs.RecordViews.{record_view}
use Rattle.requests.proofs.ReportLemmas.{turn}
use Rattle.modules.proofs.entries.conflict_names.Goals as goal

pub loop-record-preserved : goal.loop-record-preserved
loop-record-preserved c =
    turn record_view conflict_names (flat_map-append conflicts_of) (slice_texts c.loop-record.all.items)
    (slice_texts c.push_conflicts.new.all.items) c.args.records.now c.loop-record.record-index c.record-item.result
    c.loop-record-test.true c.record-item.is c.loop-record.invariant c.in_ok-push_conflicts.ensures
