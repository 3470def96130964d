use Rattle.std.proofs.Common.{◌≡◌, [], map, take, string_bytes}
use Rattle.modulefile.specs.Records.{conflict_names}
use Rattle.modulefile.specs.RecordViews.{record_view}
use Rattle.audit_laws.specs.site.DirectorySets.{with_directories}
use Rattle.audit_site.specs.Mentions.{known_in, unknown_among}
use Rattle.audit_site.proofs.names.unknown_conflicts.Given as goal

abbrev pub invariant-loop-recorded : goal.invariant-loop-recorded
invariant-loop-recorded l =
    map string_bytes l.unknown.keys
    ≡ with_directories [] (unknown_among (known_in l.meaning.keys) (conflict_names (map record_view (take l.recorded-index l.records))))
