use Rattle.std.proofs.Common.{◌≡◌, ◌++◌, true, List, drop, map, string_bytes}
use Rattle.filetree.specs.Agreement.{InEachPair, ReadsOn}
use Rattle.modulename.specs.ModuleName.{Text}
use Rattle.search.specs.Listed as listed
use Rattle.search.specs.Listed.{AreListings}
use Rattle.search.proofs.VersionLemmas.{has}
use Rattle.search.specs.Listings.{listing_view}
use Rattle.search.proofs.listings.selected.Given as goal

abbrev pub invariant-loop-dir : goal.invariant-loop-dir
invariant-loop-dir g l = record {
  reads : ReadsOn g.T.Tree.agrees g.T.Tree.failures l.initial.tree l.tree;
  so_far : InEachPair (g.T.Tree.agrees l.tree) (λ files folders. (more : List listed.Listing)
      → AreListings (g.D.DefaultFiles.results l.default_files) files folders (map string_bytes l.texts) (map (λ dir. dir.now) (drop l.dir-index l.dir-items)) more
      → AreListings (g.D.DefaultFiles.results l.default_files) files folders (map string_bytes l.texts) (map (λ dir. dir.now) l.dir-items) (map listing_view l.listings.items ++ more));
  unfailed : g.T.Tree.failed l.tree ≡ g.T.Tree.failed l.initial.tree;
  among : (d : Text) → has d (map (λ dir. dir.now) (drop l.dir-index l.dir-items)) ≡ true → has d (map (λ dir. dir.now) l.dir-items) ≡ true;
}
