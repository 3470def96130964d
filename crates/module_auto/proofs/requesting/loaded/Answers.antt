use Rattle.std.proofs.Common.{Ok, refl, subst}
use Rattle.requests.specs.Requests.{Request}
use Rattle.requests.specs.Steps.{RequestStep, request_context_in}
use Rattle.modules.specs.Replies.{reply_view}
use Rattle.module_auto.proofs.requesting.loaded.Goals as goal

pub returns-clause-loaded : goal.returns-clause-loaded
returns-clause-loaded g c =
    λ files listings a.
    let done = reply_view c.in_ok-run.field-0 in
    let Stepped : Request → Type 0 = λ r. RequestStep (request_context_in c.args.limits r.0 files listings) c.args.env.now r.1 (Ok done) in
    (done, subst Stepped c.in_ok-request.ensures (c.in_ok-run.ensures.over_tree files listings a), refl)
