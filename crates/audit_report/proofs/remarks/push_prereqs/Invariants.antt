use Rattle.std.proofs.Common.{◌≡◌, ◌++◌, flat_map, take}
use Rattle.audit_report.specs.Remarks.{prereq_line}
use Rattle.audit_report.proofs.remarks.push_prereqs.Given as goal

abbrev pub invariant-loop-unknown : goal.invariant-loop-unknown
invariant-loop-unknown l = l.report.items ≡ l.initial.report.items ++ flat_map prereq_line (take l.unknown-index l.unknowns)
