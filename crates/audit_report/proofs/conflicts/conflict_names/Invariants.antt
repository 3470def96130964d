use Rattle.std.proofs.Common.{◌≡◌, take}
use Rattle.envvars.specs.Texts.{slice_texts}
use Rattle.audit_report.specs.Remarks.{conflict_names}
use Rattle.audit_report.proofs.conflicts.conflict_names.Given as goal

abbrev pub invariant-loop-unknown : goal.invariant-loop-unknown
invariant-loop-unknown l = slice_texts l.names.items ≡ conflict_names (take l.unknown-index l.unknowns)
