use Rattle.std.proofs.Common.{◌≡◌, map, take, string_bytes}
use Rattle.filetree.specs.Agreement.{InEachPair, ReadsOn}
use Rattle.audit_certificate.specs.RecordUses.{IsAmong}
use Rattle.audit_site.specs.FilesBelow.{Has, IsFoundBelow}
use Rattle.std.specs.Prelude.{◌↔◌}
use Rattle.modulename.specs.ModuleName.{Text}
use Rattle.audit_site.proofs.no_modulefiles.no_modulefiles.Given as goal

abbrev pub invariant-loop-dir : goal.invariant-loop-dir
invariant-loop-dir g l = record {
  reads : ReadsOn g.T.Tree.agrees g.T.Tree.failures l.initial.tree l.tree;
  found : InEachPair (g.T.Tree.agrees l.tree) (λ files listings. (q : Text) → Has l.found q
      ↔ ((dir : Text) × IsAmong dir (map string_bytes (take l.dir-index l.dirs)) × IsFoundBelow files listings 4 dir q));
  unfailed : g.T.Tree.failed l.tree ≡ g.T.Tree.failed l.initial.tree;
}
