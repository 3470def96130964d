use Rattle.std.proofs.Common.{◌≡◌, ◌-◌, true, map, take, string_bytes}
use Rattle.filetree.specs.Agreement.{InEachPair, ReadsOn}
use Rattle.audit_site.specs.FilesBelow.{lacks_cookie_at, Adds, IsInBy}
use Rattle.audit_site.proofs.no_modulefiles.+add_below.Given as goal

abbrev pub decreases-add_below : goal.decreases-add_below
decreases-add_below g l = l.levels

abbrev pub invariant-loop-path : goal.invariant-loop-path
invariant-loop-path g l = record {
  reads : ReadsOn g.T.Tree.agrees g.T.Tree.failures l.initial.tree l.tree;
  found : InEachPair (g.T.Tree.agrees l.tree) (λ files listings. Adds l.fn.found l.found (λ q.
      IsInBy listings (l.levels - 1) (map string_bytes (take l.path-index l.path-items)) q × (lacks_cookie_at files q ≡ true)));
  unfailed : g.T.Tree.failed l.tree ≡ g.T.Tree.failed l.initial.tree;
}
