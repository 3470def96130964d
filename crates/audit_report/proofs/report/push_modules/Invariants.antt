use Rattle.std.proofs.Common.{◌≡◌, ◌++◌, drop}
use Rattle.audit_report.specs.Reports.{named_lines}
use Rattle.audit_report.proofs.report.push_modules.Given as goal

-- with the lines of the modules that are left, these are all
abbrev pub invariant-loop-module : goal.invariant-loop-module
invariant-loop-module l =
    l.report.items ++ named_lines l.selection (drop l.module-index l.modules) l.dry_runs
    ≡ l.initial.report.items ++ named_lines l.selection l.modules l.fn.dry_runs
