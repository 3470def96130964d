use Rattle.std.proofs.Common.{◌≡◌, [], map, take}
use Rattle.indexmap.specs.IndexSet.{insert_all}
use Rattle.envvars.specs.Texts.{texts_in}
use Rattle.modulefile.specs.Records.{prereq_groups}
use Rattle.modulefile.specs.RecordViews.{record_view}
use Rattle.std.specs.Prelude.{bytes_eq}
use Rattle.audit_laws.specs.determinism.Contexts.{same_by}
use Rattle.audit_site.specs.Mentions.{known_in, unknown_groups}
use Rattle.audit_site.proofs.names.unknown_prereqs.Given as goal

abbrev pub invariant-loop-recorded : goal.invariant-loop-recorded
invariant-loop-recorded l =
    map texts_in l.unknown.items
    ≡ insert_all (same_by bytes_eq) [] (unknown_groups (known_in l.meaning.keys) (prereq_groups (map record_view (take l.recorded-index l.records))))
