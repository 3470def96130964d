use Rattle.std.proofs.Common.{◌≡◌, map, take}
use Rattle.envvars.specs.Texts.{slice_texts}
use Rattle.modulefile.specs.Records.{conflict_names}
use Rattle.modulefile.specs.RecordViews.{record_view}
use Rattle.audit_laws.proofs.determinism.equivalent.conflict_names.Given as goal

abbrev pub invariant-loop-recorded : goal.invariant-loop-recorded
invariant-loop-recorded l = slice_texts l.names.items ≡ conflict_names (map record_view (take l.recorded-index l.records))
