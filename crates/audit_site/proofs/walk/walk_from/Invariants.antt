use Rattle.std.proofs.Common.{◌≡◌, ◌≤◌, ◌-◌, map, string_bytes}
use Rattle.filetree.specs.Agreement.{InEachPair, ReadsOn}
use Rattle.audit_laws.specs.site.Sites.{site_of}
use Rattle.audit_site.specs.Walks.{most_directories}
use Rattle.audit_site.proofs.WalkLemmas.{IsWalkTo}
use Rattle.audit_site.proofs.walk.walk_from.Given as goal

abbrev pub invariant-loop-evaluations : goal.invariant-loop-evaluations
invariant-loop-evaluations g l = record {
  reads : ReadsOn g.T.Tree.agrees g.T.Tree.failures l.initial.tree l.tree;
  unfailed : g.T.Tree.failed l.tree ≡ g.T.Tree.failed l.initial.tree;
  within : l.place ≤ most_directories;
  walked : InEachPair (g.T.Tree.agrees l.tree) (λ files listings.
      IsWalkTo (site_of l.settings.limits l.settings.env.now files listings) l.place (map string_bytes l.dirs.keys) l.evaluations.items);
}

abbrev pub decreases-loop-evaluations : goal.decreases-loop-evaluations
decreases-loop-evaluations g l = most_directories - l.place
