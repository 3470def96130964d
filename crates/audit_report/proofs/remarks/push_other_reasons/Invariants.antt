use Rattle.std.proofs.Common.{◌≡◌, ◌++◌, flat_map, take}
use Rattle.audit_report.specs.Remarks.{other_reasons_line}
use Rattle.audit_report.proofs.remarks.push_other_reasons.Given as goal

abbrev pub invariant-loop-other_reasons : goal.invariant-loop-other_reasons
invariant-loop-other_reasons l =
    l.report.items ≡ l.initial.report.items ++ flat_map (other_reasons_line l.module) (take l.other_reasons-index l.module.other_reasons.items)
