use Rattle.std.proofs.Common.{◌≡◌, map, take, string_bytes}
use Rattle.modulefile.specs.RecordViews.{record_view}
use Rattle.audit_laws.specs.site.Sites.{added_directories}
use Rattle.audit_laws.specs.site.DirectorySets.{with_directories}
use Rattle.audit_site.proofs.directories.push_added.Given as goal

abbrev pub invariant-loop-recorded : goal.invariant-loop-recorded
invariant-loop-recorded l = map string_bytes l.dirs.keys ≡ with_directories (map string_bytes l.initial.dirs.keys) (added_directories (map record_view (take l.recorded-index l.records)))
