use Rattle.std.proofs.Common.{◌≡◌, map, take, string_bytes}
use Rattle.filetree.specs.Agreement.{InEachPair, ReadsOn}
use Rattle.audit_site.specs.Unread.{unread_among}
use Rattle.audit_site.proofs.unread.unread_default_files.Given as goal

-- those of the directories so far
abbrev pub invariant-loop-dir : goal.invariant-loop-dir
invariant-loop-dir g l = record {
  reads : ReadsOn g.T.Tree.agrees g.T.Tree.failures l.initial.tree l.tree;
  so_far : InEachPair (g.T.Tree.agrees l.tree) (λ files listings.
      map string_bytes l.found.items ≡ unread_among listings (map string_bytes (take l.dir-index l.dirs)));
  unfailed : g.T.Tree.failed l.tree ≡ g.T.Tree.failed l.initial.tree;
}
