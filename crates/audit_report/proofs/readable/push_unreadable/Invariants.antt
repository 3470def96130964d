use Rattle.std.proofs.Common.{◌≡◌, ◌++◌, flat_map, take}
use Rattle.audit_report.specs.Readable.{unreadable_line}
use Rattle.audit_report.proofs.readable.push_unreadable.Given as goal

abbrev pub invariant-loop-path : goal.invariant-loop-path
invariant-loop-path l = l.report.items ≡ l.initial.report.items ++ flat_map unreadable_line (take l.path-index l.paths)
