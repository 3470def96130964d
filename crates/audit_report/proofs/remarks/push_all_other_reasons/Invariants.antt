use Rattle.std.proofs.Common.{◌≡◌, ◌++◌, flat_map, take}
use Rattle.audit_report.specs.Remarks.{other_reasons_lines}
use Rattle.audit_report.proofs.remarks.push_all_other_reasons.Given as goal

abbrev pub invariant-loop-module : goal.invariant-loop-module
invariant-loop-module l = l.report.items ≡ l.initial.report.items ++ flat_map other_reasons_lines (take l.module-index l.modules)
