use Rattle.std.proofs.Common.{◌≡◌, ◌++◌, drop, map}
use Rattle.envvars.specs.Texts.{texts_in}
use Rattle.envstate.specs.loaded_list.LoadedEntries.{entry_view}
use Rattle.filetree.specs.Agreement.{InEachPair, ReadsOn}
use Rattle.module_restore.specs.forgetting.Forgets.{gone}
use Rattle.module_restore.proofs.forgetting.gone.gone.Given as goal

abbrev pub invariant-loop-entry : goal.invariant-loop-entry
invariant-loop-entry g l = record {
  reads : ReadsOn g.T.Tree.agrees g.T.Tree.failures l.initial.tree l.tree;
  gone : InEachPair (g.T.Tree.agrees l.tree) (λ files listings.
      texts_in l.names ++ gone files (map entry_view (drop l.entry-index l.entries)) ≡ gone files (map entry_view l.entries));
}
