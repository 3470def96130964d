use Rattle.std.proofs.Common.{◌≡◌, ◌≤◌, ◌+◌, ◌++◌, List, drop, map}
use Rattle.envvars.specs.Texts.{Text, texts_in}
use Rattle.filetree.specs.Agreement.{FailsOnlyAt, InEachPair, Narrows}
use Rattle.requests.specs.Sessions.{Response, end_environment}
use Rattle.requests.specs.Steps.{request_context_in}
use Rattle.modules.specs.Responses.{responses, count_failed}
use Rattle.modules.specs.rehearsals.Sessions.{LineSession, LinesLookAt}
use Rattle.modules.proofs.rehearsals.running.run_lines.Given as goal

abbrev pub invariant-loop-words : goal.invariant-loop-words
invariant-loop-words g l = record {
  narrows : Narrows (g.T.Tree.agrees l.initial.tree) (g.T.Tree.agrees l.tree);
  failures : g.T.Tree.failures l.initial.tree + count_failed l.outcomes.items ≤ g.T.Tree.failures l.tree;
  end : InEachPair (g.T.Tree.agrees l.tree) (λ files listings. l.env ≡ end_environment l.initial.env (responses l.initial.env l.outcomes.items));
  ran : InEachPair (g.T.Tree.agrees l.tree) (λ files listings. (os : List Response)
      → LineSession (request_context_in l.limits l.shell files listings) l.env (map texts_in (drop l.words-index l.lines)) os
      → LineSession (request_context_in l.limits l.shell files listings) l.initial.env (map texts_in l.lines) (responses l.initial.env l.outcomes.items ++ os));
  looks : InEachPair (g.T.Tree.agrees l.tree) (λ files listings. (at : Text)
      → LinesLookAt (request_context_in l.limits l.shell files listings) l.env (map texts_in (drop l.words-index l.lines)) at
      → LinesLookAt (request_context_in l.limits l.shell files listings) l.initial.env (map texts_in l.lines) at);
  failed : FailsOnlyAt g.T.Tree.agrees g.T.Tree.failed l.initial.tree l.tree (λ files listings at.
      LinesLookAt (request_context_in l.limits l.shell files listings) l.initial.env (map texts_in l.lines) at);
}
