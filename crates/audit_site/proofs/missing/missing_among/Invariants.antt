use Rattle.std.proofs.Common.{◌≡◌, ◌++◌, map, string_bytes}
use Rattle.std.specs.Vec.Iter.{into_iter_items}
use Rattle.filetree.specs.Agreement.{InEachPair, ReadsOn}
use Rattle.audit_site.specs.Missing.{missing_among}
use Rattle.audit_site.proofs.missing.missing_among.Given as goal

-- those so far are judged, and the rest are left
abbrev pub invariant-loop-dir : goal.invariant-loop-dir
invariant-loop-dir g l = record {
  reads : ReadsOn g.T.Tree.agrees g.T.Tree.failures l.initial.tree l.tree;
  so_far : InEachPair (g.T.Tree.agrees l.tree) (λ files listings.
      missing_among listings (map string_bytes l.fn.dirs.items)
      ≡ map string_bytes l.missing.items ++ missing_among listings (map string_bytes (into_iter_items l.dir-iterator)));
  unfailed : g.T.Tree.failed l.tree ≡ g.T.Tree.failed l.initial.tree;
  whole : l.yielded ++ into_iter_items l.dir-iterator ≡ l.fn.dirs.items;
}
