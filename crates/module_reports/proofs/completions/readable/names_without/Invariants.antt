use Rattle.std.proofs.Common.{◌≤◌}
use Rattle.module_reports.proofs.completions.readable.names_without.Given as goal

abbrev pub invariant-loop : goal.invariant-loop
invariant-loop g l = g.T.Tree.failures l.initial.tree.tree ≤ g.T.Tree.failures l.tree.tree
