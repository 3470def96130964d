use Rattle.std.proofs.Common.{◌≡◌, ℕ, ◌≤◌, ◌+◌, ◌++◌, List, drop, map}
use Rattle.filetree.specs.Agreement.{FailsOnlyAt, InEachPair, Narrows}
use Rattle.shelltext.specs.declared.shell.Shell.{Shell}
use Rattle.requests.specs.Looked.{SessionLooksAt}
use Rattle.requests.specs.RequestViews.{request_view}
use Rattle.requests.specs.Sessions.{Response, Session, end_environment}
use Rattle.requests.specs.Steps.{request_context_in}
use Rattle.modules.specs.Responses.{responses, count_failed}
use Rattle.modules.proofs.sessions.session.Given as goal

abbrev pub invariant-loop-request : goal.invariant-loop-request
invariant-loop-request g l = record {
  narrows : Narrows (g.T.Tree.agrees l.initial.tree) (g.T.Tree.agrees l.tree);
  failures : g.T.Tree.failures l.initial.tree + count_failed l.outcomes.items ≤ g.T.Tree.failures l.tree;
  end : InEachPair (g.T.Tree.agrees l.tree) (λ files listings. l.after ≡ end_environment l.initial.after (responses l.initial.after l.outcomes.items));
  ran : InEachPair (g.T.Tree.agrees l.tree) (λ files listings. (shell : Shell) (os : List Response)
      → Session (request_context_in l.limits shell files listings) l.after (map request_view (drop l.request-index l.requests)) os
      → Session (request_context_in l.limits shell files listings) l.initial.after (map request_view l.requests) (responses l.initial.after l.outcomes.items ++ os));
  looks : InEachPair (g.T.Tree.agrees l.tree) (λ files listings. (shell : Shell) (at : List ℕ)
      → SessionLooksAt (request_context_in l.limits shell files listings) l.after (map request_view (drop l.request-index l.requests)) at
      → SessionLooksAt (request_context_in l.limits shell files listings) l.initial.after (map request_view l.requests) at);
  failed : FailsOnlyAt g.T.Tree.agrees g.T.Tree.failed l.initial.tree l.tree (λ files listings at. (shell : Shell)
      → SessionLooksAt (request_context_in l.limits shell files listings) l.initial.after (map request_view l.requests) at);
}
