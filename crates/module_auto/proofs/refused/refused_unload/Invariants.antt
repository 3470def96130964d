use Rattle.std.proofs.Common.{◌≡◌, ◌-◌, map, string_bytes, vec_len}
use Rattle.envvars.specs.Texts.{texts_in}
use Rattle.filetree.specs.Agreement.{InEachPair, ReadsOn}
use Rattle.requests.specs.Steps.{request_context_in}
use Rattle.module_auto.specs.Adding.{most_added}
use Rattle.module_auto.specs.Unloads.{StillNeed, in_front}
use Rattle.module_auto.proofs.refused.refused_unload.Given as goal

abbrev pub invariant-needing : goal.invariant-needing
invariant-needing g l = record {
  reads : ReadsOn g.T.Tree.agrees g.T.Tree.failures l.fn.tree l.tree;
  needing : InEachPair (g.T.Tree.agrees l.tree) (λ files listings.
      StillNeed (request_context_in l.limits l.shell files listings) l.env (map string_bytes l.asked) (texts_in l.added));
  names : texts_in l.names ≡ in_front (texts_in l.added) (map string_bytes l.asked);
}

abbrev pub decreases-needing : goal.decreases-needing
decreases-needing g l = most_added - vec_len l.added
