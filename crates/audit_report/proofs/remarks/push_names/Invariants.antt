use Rattle.std.proofs.Common.{◌≡◌, ◌++◌, flat_map, take}
use Rattle.audit_report.specs.Remarks.{quoted_name}
use Rattle.audit_report.proofs.remarks.push_names.Given as goal

abbrev pub invariant-loop-name : goal.invariant-loop-name
invariant-loop-name l = l.report.items ≡ l.initial.report.items ++ flat_map quoted_name (take l.name-index l.names)
