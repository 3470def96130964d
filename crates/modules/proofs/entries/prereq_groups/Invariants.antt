use Rattle.std.proofs.Common.{◌≡◌, map, take}
use Rattle.envvars.specs.Texts.{texts_in}
use Rattle.modulefile.specs.Records.{prereq_groups}
use Rattle.modulefile.specs.RecordViews.{record_view}
use Rattle.modules.proofs.entries.prereq_groups.Given as goal

abbrev pub invariant-loop-record : goal.invariant-loop-record
invariant-loop-record l = map texts_in l.groups.items ≡ prereq_groups (map record_view (take l.record-index l.records))
