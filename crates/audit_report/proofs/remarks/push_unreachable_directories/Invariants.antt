use Rattle.std.proofs.Common.{◌≡◌, ◌++◌, flat_map, take}
use Rattle.audit_report.specs.Remarks.{unreachable_line}
use Rattle.audit_report.proofs.remarks.push_unreachable_directories.Given as goal

abbrev pub invariant-loop-added : goal.invariant-loop-added
invariant-loop-added l = l.report.items ≡ l.initial.report.items ++ flat_map unreachable_line (take l.added-index l.dirs)
