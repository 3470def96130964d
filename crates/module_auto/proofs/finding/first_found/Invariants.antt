use Rattle.std.proofs.Common.{◌≡◌, map, take, string_bytes}
use Rattle.std.specs.Prelude.{All}
use Rattle.filetree.specs.Agreement.{InEachPair, ReadsOn}
use Rattle.shelltext.specs.declared.shell.Shell.{Shell}
use Rattle.requests.specs.Steps.{request_context_in}
use Rattle.module_auto.specs.Loads.{IsMissed}
use Rattle.module_auto.proofs.finding.first_found.Given as goal

abbrev pub invariant-loop-name : goal.invariant-loop-name
invariant-loop-name g l = record {
  reads : ReadsOn g.T.Tree.agrees g.T.Tree.failures l.initial.tree l.tree;
  unfailed : g.T.Tree.failed l.tree ≡ g.T.Tree.failed l.initial.tree;
  missed : InEachPair (g.T.Tree.agrees l.tree) (λ files listings. (shell : Shell)
      → All (IsMissed (request_context_in l.limits shell files listings) l.env) (map string_bytes (take l.name-index l.alternatives)));
}
