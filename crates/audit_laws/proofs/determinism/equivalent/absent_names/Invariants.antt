use Rattle.std.proofs.Common.{◌≡◌, map, take}
use Rattle.envvars.specs.Texts.{slice_texts}
use Rattle.modulefile.specs.RecordViews.{record_view}
use Rattle.reversal.specs.VariableUses.{absent_in}
use Rattle.audit_laws.proofs.determinism.equivalent.absent_names.Given as goal

abbrev pub invariant-loop-recorded : goal.invariant-loop-recorded
invariant-loop-recorded l = slice_texts l.names.items ≡ absent_in (map record_view (take l.recorded-index l.records))
