use Rattle.std.proofs.Common.{map, string_bytes}
use Rattle.filetree.specs.Agreement.{InEachPair, ReadsOn}
use Rattle.requests.specs.Steps.{request_context_in}
use Rattle.module_auto.specs.Views.{IsPlan, tries_left}
use Rattle.module_auto.proofs.refused.tried_names.Given as goal

abbrev pub invariant-loop-plan : goal.invariant-loop-plan
invariant-loop-plan g l = record {
  reads : ReadsOn g.T.Tree.agrees g.T.Tree.failures l.fn.tree l.tree;
  plan : InEachPair (g.T.Tree.agrees l.tree) (λ files listings.
      IsPlan (request_context_in l.limits l.shell files listings) l.env (map string_bytes l.asked) l.plan);
}

abbrev pub decreases-loop-plan : goal.decreases-loop-plan
decreases-loop-plan g l = tries_left l.plan
