use Rattle.std.proofs.Common.{◌≡◌, ◌++◌, flat_map, take}
use Rattle.audit_report.specs.Remarks.{missing_line}
use Rattle.audit_report.proofs.remarks.push_missing.Given as goal

abbrev pub invariant-loop-dir : goal.invariant-loop-dir
invariant-loop-dir l = l.report.items ≡ l.initial.report.items ++ flat_map (missing_line l.unreadable) (take l.dir-index l.dirs)
