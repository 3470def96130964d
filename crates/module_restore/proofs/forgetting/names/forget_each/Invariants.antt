use Rattle.std.proofs.Common.{◌≡◌, drop, map, string_bytes, Result}
use Rattle.envvars.specs.Texts.{Text}
use Rattle.filetree.specs.Agreement.{InEachPair, ReadsOn}
use Rattle.module_restore.specs.forgetting.Forgets.{ForgetReason, Forgets, ForgetsEach, Forgetting}
use Rattle.module_restore.specs.forgetting.Looked.{IsRecorded}
use Rattle.module_restore.specs.forgetting.Views.{forgetting_in}
use Rattle.module_restore.proofs.forgetting.names.forget_each.Given as goal

abbrev pub invariant-loop-name : goal.invariant-loop-name
invariant-loop-name g l = record {
  reads : ReadsOn g.T.Tree.agrees g.T.Tree.failures l.initial.tree l.tree;
  comes : InEachPair (g.T.Tree.agrees l.tree) (λ files listings. (o : Result Forgetting ForgetReason)
      → ForgetsEach l.settings_stay files (map string_bytes (drop l.name-index l.names)) (forgetting_in l.env l.forgotten) o
      → Forgets l.settings_stay files l.initial.env (map string_bytes l.names) o);
  unfailed : g.T.Tree.failed l.tree ≡ g.T.Tree.failed l.initial.tree;
  recorded : (at : Text) → IsRecorded l.env at → IsRecorded l.initial.env at;
}
