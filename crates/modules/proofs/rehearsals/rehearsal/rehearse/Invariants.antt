use Rattle.std.proofs.Common.{ℕ, ◌++◌, List, Option, drop, map}
use Rattle.envvars.specs.Texts.{Text}
use Rattle.envvars.specs.Environment.{Environment}
use Rattle.filetree.specs.Agreement.{FailsOnlyAt, InEachPair, Narrows}
use Rattle.shelltext.specs.declared.shell.Shell.{Shell}
use Rattle.requests.specs.Looked.{SessionLooksAt}
use Rattle.requests.specs.RequestViews.{request_view}
use Rattle.requests.specs.Steps.{request_context_in}
use Rattle.modules.specs.rehearsals.Rehearsals.{Rehearsal}
use Rattle.modules.specs.rehearsals.RehearsalParts.{prints}
use Rattle.modules.proofs.rehearsals.rehearsal.rehearse.Given as goal

abbrev pub invariant-loop-request : goal.invariant-loop-request
invariant-loop-request g l = record {
  narrows : Narrows (g.T.Tree.agrees l.initial.tree) (g.T.Tree.agrees l.tree);
  rehearsed : InEachPair (g.T.Tree.agrees l.tree) (λ files listings. (shell : Shell) (ps : List (Option Text)) (end : Environment) (n : ℕ)
      → Rehearsal (request_context_in l.limits shell files listings) l.after (map request_view (drop l.request-index l.requests)) ps end (g.T.Tree.failures l.tree) n
      → Rehearsal (request_context_in l.limits shell files listings) l.initial.after (map request_view l.requests) (prints l.texts.items ++ ps) end (g.T.Tree.failures l.initial.tree) n);
  looks : InEachPair (g.T.Tree.agrees l.tree) (λ files listings. (shell : Shell) (at : Text)
      → SessionLooksAt (request_context_in l.limits shell files listings) l.after (map request_view (drop l.request-index l.requests)) at
      → SessionLooksAt (request_context_in l.limits shell files listings) l.initial.after (map request_view l.requests) at);
  failed : FailsOnlyAt g.T.Tree.agrees g.T.Tree.failed l.initial.tree l.tree (λ files listings at. (shell : Shell)
      → SessionLooksAt (request_context_in l.limits shell files listings) l.initial.after (map request_view l.requests) at);
}
