use Rattle.std.proofs.Common.{◌≡◌, map, take, string_bytes}
use Rattle.std.specs.Prelude.{◌↔◌}
use Rattle.filetree.specs.Agreement.{InEachPair, ReadsOn}
use Rattle.audit_certificate.specs.RecordUses.{IsAmong}
use Rattle.audit_site.specs.DeterministicRuns.{evaluated_file}
use Rattle.audit_site.specs.Folders.{FolderText, folder_view, HoldsOneOf}
use Rattle.audit_site.proofs.BadDefaults.{AreBadSoFar}
use Rattle.audit_site.proofs.defaults.bad_default_files.Given as goal

abbrev pub invariant-loop-module : goal.invariant-loop-module
invariant-loop-module g l =
    record {
      reads : ReadsOn g.T.Tree.agrees g.T.Tree.failures l.initial.tree l.tree;
      unfailed : g.T.Tree.failed l.tree ≡ g.T.Tree.failed l.initial.tree;
      folders : (folder : FolderText) → IsAmong folder (map folder_view l.folders.keys) ↔ HoldsOneOf (take l.module-index l.evaluations) folder;
      paths : InEachPair (g.T.Tree.agrees l.tree) (λ files listings.
          AreBadSoFar l.limits files listings (map evaluated_file (take l.module-index l.evaluations)) (map string_bytes l.paths.keys));
    }
