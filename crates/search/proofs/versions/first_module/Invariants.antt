use Rattle.std.proofs.Common.{◌≡◌, List, ℕ, drop, map, find}
use Rattle.filetree.specs.Agreement.{InEachPair, ReadsOn}
use Rattle.search.specs.Versions.{is_module_in, LooksFromGreatest}
use Rattle.search.proofs.versions.first_module.Given as goal

abbrev pub invariant-loop-version : goal.invariant-loop-version
invariant-loop-version g l = record {
  reads : ReadsOn g.T.Tree.agrees g.T.Tree.failures l.initial.tree l.tree;
  none_yet : InEachPair (g.T.Tree.agrees l.tree) (λ files listings.
      find (is_module_in files l.dir l.name) (map (λ v. v.now) l.versions) ≡ find (is_module_in files l.dir l.name) (map (λ v. v.now) (drop l.version-index l.versions)));
  unfailed : g.T.Tree.failed l.tree ≡ g.T.Tree.failed l.initial.tree;
  looked : InEachPair (g.T.Tree.agrees l.tree) (λ files listings. (at : List ℕ)
      → LooksFromGreatest files l.dir l.name (map (λ v. v.now) (drop l.version-index l.versions)) at → LooksFromGreatest files l.dir l.name (map (λ v. v.now) l.versions) at);
}
