use Rattle.requests.specs.RequestViews.{action_view}
use Rattle.requests.specs.Steps.{request_context_in}
use Rattle.modules.proofs.SessionLemmas.{accepted_counts, made_by_moves, refused_counts, refused_leaves}
use Rattle.modules.proofs.SessionLemmas.{refused_responds, responds}
use Rattle.modules.proofs.sessions.respond.Goals as goal

pub returns-in-Ok-clause-failures : goal.returns-in-Ok-clause-failures
returns-in-Ok-clause-failures g c = accepted_counts _ _ c.in-Ok.done c.in-Ok.ensures.reads.counts_failures

pub returns-in-Ok-clause-answer : goal.returns-in-Ok-clause-answer
returns-in-Ok-clause-answer g c =
    λ files listings agreed.
    responds c.outcomes.ensures.all_moved (request_context_in c.args.limits c.args.request.now.shell files listings)
    c.args.env.now c.make_changes.new.env (action_view c.args.request.now.action) c.in-Ok.done
    (c.in-Ok.ensures.over_tree files listings agreed)

pub returns-in-Ok-clause-end : goal.returns-in-Ok-clause-end
returns-in-Ok-clause-end g c =
    λ files listings agreed.
    made_by_moves c.outcomes.ensures.all_moved (request_context_in c.args.limits c.args.request.now.shell files
    listings) c.args.env.now c.make_changes.new.env (action_view c.args.request.now.action) c.in-Ok.done
    (c.in-Ok.ensures.over_tree files listings agreed)

pub returns-in-Err-clause-failures : goal.returns-in-Err-clause-failures
returns-in-Err-clause-failures g c = refused_counts _ _ c.in-Err.refusal _ c.in-Err.ensures.reads.counts_failures c.in-Err.ensures.over_tree

pub returns-in-Err-clause-answer : goal.returns-in-Err-clause-answer
returns-in-Err-clause-answer g c =
    refused_responds c.in-Err.refusal _ _ (λ files listings. request_context_in c.args.limits c.args.request.now.shell
    files listings) c.args.env.now (action_view c.args.request.now.action) c.in-Err.ensures.over_tree

pub returns-in-Err-clause-end : goal.returns-in-Err-clause-end
returns-in-Err-clause-end g c = λ files listings agreed. refused_leaves c.in-Err.refusal c.args.env.now c.make_changes.new.env c.in-Err.ensures.unchanged
