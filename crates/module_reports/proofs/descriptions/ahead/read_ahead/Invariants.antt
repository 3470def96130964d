use Rattle.std.proofs.Common.{◌≡◌, ℕ, List, true}
use Rattle.filetree.specs.Agreement.{ReadsOn}
use Rattle.module_reports.proofs.descriptions.ahead.read_ahead.Given as goal

abbrev pub invariant-loop-dir : goal.invariant-loop-dir
invariant-loop-dir g l = record {
  reads : ReadsOn g.T.Tree.agrees g.T.Tree.failures l.fn.tree l.tree;
  failed : (path : List ℕ) → g.T.Tree.failed l.fn.tree path ≡ true → g.T.Tree.failed l.tree path ≡ true;
}
