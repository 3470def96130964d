use Rattle.std.proofs.Common.{◌≤◌, ◌≡◌, None, take, Bor}
use Rattle.std.specs.Prelude.{All}
use Rattle.envvars.specs.Texts.{Text}
use Rattle.filetree.specs.Agreement.{InEachPair, Narrows}
use Rattle.module_explain.proofs.unknown.is_one_there.Given as goal

abbrev pub invariant-loop-directory : goal.invariant-loop-directory
invariant-loop-directory g l = record {
  narrows : Narrows (g.T.Tree.agrees l.initial.tree) (g.T.Tree.agrees l.tree);
  counts : g.T.Tree.failures l.initial.tree ≤ g.T.Tree.failures l.tree;
  none : InEachPair (g.T.Tree.agrees l.tree) (λ files listings. All (λ (directory : Bor Text). listings directory.now ≡ None) (take l.directory-index l.directories));
}
