use Rattle.std.proofs.Common.{Ok, subst, ◌∙◌}
use Rattle.std.proofs.lemmas.Result.{err_from_is_err_and}
use Rattle.envvars.specs.Environment.{Environment}
use Rattle.envvars.specs.Changes.{new_values_in}
use Rattle.requests.specs.RequestViews.{action_view}
use Rattle.requests.specs.Steps.{RequestStep, request_context_in}
use Rattle.modules.specs.Views.{done_view}
use Rattle.modules.proofs.MemoryNumberLemmas.{own_number}
use Rattle.modules.proofs.RunLemmas.{left_of, exact_of}
use Rattle.modules.proofs.running.run_changes.Goals as goal

pub returns-clause-over_tree : goal.returns-clause-over_tree
returns-clause-over_tree g c =
    λ files listings agreed.
    let context = request_context_in c.args.limits c.args.request.now.shell files listings in
    let asked = action_view c.args.request.now.action in
    let From : Environment → Type 0 = λ x. RequestStep context x asked (Ok (done_view c.in_ok-done.done c.step.new.env.new)) in
    let To : Environment → Type 0 = λ x. RequestStep context c.args.env.now asked (Ok (done_view c.in_ok-done.done x)) in
    let made = left_of c.changes.ensures c.args.env.now c.step.new.env.old c.step.new.env.new
    (new_values_in c.in_ok-changes.changes) (c.step.ensures.base ∙ c.over-working.ensures.old)
    c.in_ok-changes.ensures.ok in
    subst To made (subst From c.over-working.ensures.new (c.in_ok-done.ensures.over_tree files listings agreed))

pub returns-clause-exact : goal.returns-clause-exact
returns-clause-exact g c =
    exact_of c.changes.ensures c.args.env.now c.step.new.env.old c.step.new.env.new
    (new_values_in c.in_ok-changes.changes) (c.step.ensures.base ∙ c.over-working.ensures.old)
    c.in_ok-changes.ensures.ok

pub returns-in_err-changes-clause-out_of_memory : goal.returns-in_err-changes-clause-out_of_memory
returns-in_err-changes-clause-out_of_memory g c =
    let p = err_from_is_err_and c.from_residual-in_err-changes.result c.from_residual-in_err-changes.ensures.1 in
    rw (p.1, p.2) (own_number (action_view c.args.request.now.action))

pub returns-in_err-done-clause-failed : goal.returns-in_err-done-clause-failed
returns-in_err-done-clause-failed g c =
    let p = err_from_is_err_and c.from_residual.result c.from_residual.ensures.1 in
    let failed = rw c.over-working.ensures.new at c.in_err-done.ensures.failed in
    rw (p.1, p.2) failed
