use Rattle.std.proofs.Common.{◌≡◌, map, take}
use Rattle.envvars.specs.Texts.{Text, has}
use Rattle.modulefile.specs.Records.{conflict_names}
use Rattle.modulefile.specs.RecordViews.{record_view}
use Rattle.audit_certificate.specs.Conflicts.{has_name}
use Rattle.audit_certificate.proofs.conflicts.conflict_names.Given as goal

abbrev pub invariant-loop-recorded : goal.invariant-loop-recorded
invariant-loop-recorded l = (name : Text) → has_name l.names name ≡ has name (conflict_names (map record_view (take l.recorded-index l.records)))
