use Rattle.std.proofs.Common.{◌≡◌, ◌++◌, flat_map, take}
use Rattle.audit_report.specs.Remarks.{unread_file_line}
use Rattle.audit_report.proofs.remarks.push_unread_files.Given as goal

abbrev pub invariant-loop-path : goal.invariant-loop-path
invariant-loop-path l = l.report.items ≡ l.initial.report.items ++ flat_map unread_file_line (take l.path-index l.paths)
