use Rattle.std.proofs.Common.{◌≡◌, ◌++◌, flat_map, take}
use Rattle.envvars.specs.Texts.{slice_texts}
use Rattle.audit_report.specs.Counts.{counted_at}
use Rattle.audit_report.specs.Remarks.{conflict_line}
use Rattle.audit_report.proofs.conflicts.push_counted.Given as goal

abbrev pub invariant-loop-name : goal.invariant-loop-name
invariant-loop-name l =
    l.report.items ≡ l.initial.report.items ++ flat_map (λ name. conflict_line (counted_at l.counts name) name) (slice_texts (take l.name-index l.names))
