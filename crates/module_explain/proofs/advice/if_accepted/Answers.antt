use Rattle.std.proofs.Common.{◌≡◌, false, List, Result, inl, sym, subst, ◌∙◌}
use Rattle.std.specs.Prelude.{IfErr, map}
use Rattle.envvars.specs.Changes.{new_value_of}
use Rattle.envvars.specs.declared.change.Change.{Change}
use Rattle.modules.specs.transient_failures.Causes.{is_transient}
use Rattle.modules.specs.Answers.{cause_of}
use Rattle.modules.specs.declared.refusal.Refusal.{Refusal}
use Rattle.modules.specs.declared.reply.RequestChanges.{RequestChanges}
use Rattle.requests.specs.RequestViews.{action_view}
use Rattle.module_explain.specs.Views.{IsNotSaid, IsSaid}
use Rattle.module_explain.proofs.AdviceLemmas.{accepted_by, refused_by, unsaid_by}
use Rattle.module_explain.proofs.advice.if_accepted.Goals as goal

pub returns-then-branch-clause-advised : goal.returns-then-branch-clause-advised
returns-then-branch-clause-advised g c =
    let shell = c.args.refused.request.now.shell in
    accepted_by (g.T.Tree.agrees c.run_changes-outcome.new.tree) c.args.refused.limits shell c.args.refused.env.now _ (action_view c.args.action)
    c.run_changes-outcome.result c.in-Ok.changed (sym c.in_ok-changed.ensures.same ∙ c.in-Ok.is) c.run_changes-outcome.ensures.over_tree c.run_changes-outcome.ensures.exact
    (subst (λ (l : List Change). IsSaid shell (map new_value_of l)) c.as_slice.ensures.value (c.in_ok-has_text-in-Ok.ensures.said c.if-branch.true))

pub returns-else-branch-clause-none : goal.returns-else-branch-clause-none
returns-else-branch-clause-none g c =
    let shell = c.args.refused.request.now.shell in
    unsaid_by (g.T.Tree.agrees c.run_changes-outcome.new.tree) c.args.refused.limits shell c.args.refused.env.now _ (action_view c.args.action)
    c.run_changes-outcome.result c.in-Ok.changed (sym c.in_ok-changed.ensures.same ∙ c.in-Ok.is) c.run_changes-outcome.ensures.over_tree c.run_changes-outcome.ensures.exact
    (subst (λ (l : List Change). IsNotSaid shell (map new_value_of l)) c.as_slice.ensures.value (c.in_ok-has_text-in-Ok.ensures.unsaid c.if-branch.false))

pub returns-in-Err-clause-none : goal.returns-in-Err-clause-none
returns-in-Err-clause-none g c =
    inl (refused_by (g.T.Tree.agrees c.run_changes-outcome.new.tree) c.args.refused.limits c.args.refused.request.now.shell c.args.refused.env.now _ (action_view c.args.action)
    c.run_changes-outcome.result c.in-Err.field-0 (sym c.in_ok-changed.ensures.same ∙ c.in-Err.is)
    (subst (λ (r : Result RequestChanges Refusal). IfErr r (λ refusal. is_transient (cause_of refusal) ≡ false)) c.in-Err.is c.in_ok-changed.ensures.kept)
    c.run_changes-outcome.ensures.over_tree)
