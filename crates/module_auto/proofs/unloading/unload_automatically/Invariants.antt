use Rattle.std.proofs.Common.{◌≡◌, ◌-◌, map, string_bytes, vec_len}
use Rattle.envvars.specs.Texts.{texts_in}
use Rattle.filetree.specs.Agreement.{InEachPair, ReadsOn}
use Rattle.requests.specs.Steps.{request_context_in}
use Rattle.module_auto.specs.Adding.{most_added}
use Rattle.module_auto.specs.Unloads.{StillNeed, in_front}
use Rattle.module_auto.proofs.unloading.unload_automatically.Given as goal

abbrev pub invariant-loop-changed : goal.invariant-loop-changed
invariant-loop-changed g l = record {
  reads : ReadsOn g.T.Tree.agrees g.T.Tree.failures l.initial.tree l.tree;
  unfailed : g.T.Tree.failed l.tree ≡ g.T.Tree.failed l.initial.tree;
  needing : InEachPair (g.T.Tree.agrees l.tree) (λ files listings.
      StillNeed (request_context_in l.limits l.shell files listings) l.env (map string_bytes l.asked) (texts_in l.added));
  names : texts_in l.names ≡ in_front (texts_in l.added) (map string_bytes l.asked);
}

abbrev pub decreases-loop-changed : goal.decreases-loop-changed
decreases-loop-changed g l = most_added - vec_len l.added
