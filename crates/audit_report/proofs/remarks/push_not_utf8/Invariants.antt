use Rattle.std.proofs.Common.{◌≡◌, ◌++◌, flat_map, take}
use Rattle.audit_report.specs.Remarks.{not_utf8_line}
use Rattle.audit_report.proofs.remarks.push_not_utf8.Given as goal

abbrev pub invariant-loop-name : goal.invariant-loop-name
invariant-loop-name l = l.report.items ≡ l.initial.report.items ++ flat_map not_utf8_line (take l.name-index l.names)
