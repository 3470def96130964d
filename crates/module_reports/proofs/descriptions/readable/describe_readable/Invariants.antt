use Rattle.std.proofs.Common.{◌≤◌, ◌+◌}
use Rattle.module_reports.proofs.descriptions.readable.describe_readable.Given as goal

abbrev pub invariant-loop : goal.invariant-loop
invariant-loop g l = g.T.Tree.failures l.initial.tree.tree + l.counter ≤ g.T.Tree.failures l.tree.tree
