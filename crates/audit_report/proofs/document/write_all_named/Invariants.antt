use Rattle.std.proofs.Common.{◌≡◌, ◌++◌, drop, flat_map}
use Rattle.audit_report.specs.Tokens.{named_tokens}
use Rattle.audit_report.specs.Tried.{with_dry_runs}
use Rattle.audit_report.proofs.document.write_all_named.Given as goal

-- with the tokens of the modules that are left, these are all
abbrev pub invariant-loop-module : goal.invariant-loop-module
invariant-loop-module l =
    (l.writer.before ≡ l.initial.writer.before)
    × (l.writer.tokens ++ flat_map (named_tokens l.selection) (with_dry_runs (drop l.module-index l.modules) l.dry_runs)
    ≡ l.initial.writer.tokens ++ flat_map (named_tokens l.selection) (with_dry_runs l.modules l.fn.dry_runs))
