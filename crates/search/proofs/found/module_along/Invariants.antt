use Rattle.std.proofs.Common.{◌≡◌, List, ℕ, Result, drop, map}
use Rattle.filetree.specs.Agreement.{InEachPair, ReadsOn}
use Rattle.search.specs.Reasons.{FindReason}
use Rattle.search.specs.Found.{FoundModule, FoundAlong}
use Rattle.search.specs.Looked.{LooksAlong}
use Rattle.search.proofs.found.module_along.Given as goal

abbrev pub invariant-loop-dir : goal.invariant-loop-dir
invariant-loop-dir g l = record {
  reads : ReadsOn g.T.Tree.agrees g.T.Tree.failures l.initial.tree l.tree;
  none_yet : InEachPair (g.T.Tree.agrees l.tree) (λ files listings. (o : Result FoundModule FindReason)
      → FoundAlong (g.D.DefaultFiles.results l.default_files) files listings l.name (map (λ dir. dir.now) (drop l.dir-index l.dirs)) o
      → FoundAlong (g.D.DefaultFiles.results l.default_files) files listings l.name (map (λ dir. dir.now) l.dirs) o);
  unfailed : g.T.Tree.failed l.tree ≡ g.T.Tree.failed l.initial.tree;
  looked : InEachPair (g.T.Tree.agrees l.tree) (λ files listings. (at : List ℕ)
      → LooksAlong (g.D.DefaultFiles.results l.default_files) files listings l.name (map (λ dir. dir.now) (drop l.dir-index l.dirs)) at
      → LooksAlong (g.D.DefaultFiles.results l.default_files) files listings l.name (map (λ dir. dir.now) l.dirs) at);
}
