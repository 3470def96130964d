use Rattle.std.proofs.Common.{◌≡◌, map, take}
use Rattle.filetree.specs.Agreement.{InEachPair, ReadsOn}
use Rattle.search.specs.ListingEntries.{name_of}
use Rattle.audit_laws.specs.site.Sites.{site_of, module_below}
use Rattle.audit_site.specs.WalkParts.{AreEvaluationsOf}
use Rattle.audit_site.proofs.below.evaluate_below.Given as goal

abbrev pub invariant-loop-entry : goal.invariant-loop-entry
invariant-loop-entry g l = record {
  reads : ReadsOn g.T.Tree.agrees g.T.Tree.failures l.initial.tree l.tree;
  unfailed : g.T.Tree.failed l.tree ≡ g.T.Tree.failed l.initial.tree;
  evaluated : InEachPair (g.T.Tree.agrees l.tree) (λ files listings.
      AreEvaluationsOf (site_of l.settings.limits l.settings.env.now files listings) (map (module_below l.dir) (map name_of (take l.entry-index l.entry-items))) l.evaluations.items);
}
