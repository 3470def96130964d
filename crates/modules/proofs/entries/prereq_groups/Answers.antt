use Rattle.std.proofs.Common.{map}
use Rattle.envvars.specs.Texts.{texts_in}
use Rattle.std.proofs.lemmas.List.Elements.{filter_map-append}
use Rattle.modulefile.specs.Records.{prereqs_of, prereq_groups}
use Rattle.modulefile.specs.RecordViews.{record_view}
use Rattle.requests.proofs.ReportLemmas.{turn}
use Rattle.modules.proofs.entries.prereq_groups.Goals as goal

pub loop-record-preserved : goal.loop-record-preserved
loop-record-preserved c =
    turn record_view prereq_groups (filter_map-append prereqs_of) (map texts_in c.loop-record.groups.items)
    (map texts_in c.push_group.new.groups.items) c.args.records.now c.loop-record.record-index c.record-item.result
    c.loop-record-test.true c.record-item.is c.loop-record.invariant c.in_ok-push_group.ensures
