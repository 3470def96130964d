use Rattle.std.proofs.Common.{◌≡◌, ℕ, List, true}
use Rattle.filetree.specs.Agreement.{ReadsOn}
use Rattle.module_reports.proofs.descriptions.ahead.+read_folder.Given as goal

abbrev pub decreases-read_folder : goal.decreases-read_folder
decreases-read_folder g l = l.levels

abbrev pub invariant-loop-name : goal.invariant-loop-name
invariant-loop-name g l = record {
  reads : ReadsOn g.T.Tree.agrees g.T.Tree.failures l.fn.tree l.tree;
  failed : (path : List ℕ) → g.T.Tree.failed l.fn.tree path ≡ true → g.T.Tree.failed l.tree path ≡ true;
}
