use Rattle.std.proofs.Common.{◌≡◌, ◌++◌, ◌+◌, drop, string_bytes}
use Rattle.modules.specs.rehearsals.Reports.{outcome_lines}
use Rattle.modules.proofs.rehearsals.report.push_outcomes.Given as goal

abbrev pub invariant-loop-index : goal.invariant-loop-index
invariant-loop-index l = string_bytes l.report ++ outcome_lines (l.index + 1) (drop l.index l.outcomes) ≡ string_bytes l.initial.report ++ outcome_lines 1 l.outcomes
