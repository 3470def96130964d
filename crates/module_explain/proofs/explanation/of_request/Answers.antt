use Rattle.std.proofs.Common.{◌≡◌, false, Result, inl, refl, sym, subst, ◌∙◌}
use Rattle.std.specs.Prelude.{IfErr}
use Rattle.modules.specs.transient_failures.Causes.{is_transient}
use Rattle.modules.specs.Answers.{cause_of}
use Rattle.modules.specs.declared.refusal.Refusal.{Refusal}
use Rattle.modules.specs.declared.reply.RequestChanges.{RequestChanges}
use Rattle.requests.specs.RequestViews.{action_view}
use Rattle.module_explain.proofs.AdviceLemmas.{done_by}
use Rattle.module_explain.proofs.ExplainedLemmas.{outcomes_of, whys}
use Rattle.module_explain.proofs.explanation.of_request.Goals as goal

pub returns-in-Ok-clause-said : goal.returns-in-Ok-clause-said
returns-in-Ok-clause-said g c =
    inl (
      done_by (g.T.Tree.agrees c.run_changes-outcome.new.tree) c.args.refused.limits c.args.refused.request.now.shell c.args.refused.env.now _ (action_view c.args.refused.request.now.action)
          c.run_changes-outcome.result c.in-Ok.field-0 (sym c.in_ok-unless_transient.ensures.same ∙ c.in-Ok.is) c.run_changes-outcome.ensures.over_tree,
      refl,
      refl,
    )

pub returns-clause-said : goal.returns-clause-said
returns-clause-said g c =
    let before = g.T.Tree.agrees c.run_changes-outcome.new.tree in
    let now = g.T.Tree.agrees c.of_refusal.new.tree in
    let limits = c.args.refused.limits in
    let shell = c.args.refused.request.now.shell in
    let e = c.args.refused.env.now in
    let action = action_view c.args.refused.request.now.action in
    outcomes_of before now limits shell e action c.of_refusal.ensures.reads.narrows c.in-Err.refusal _ c.run_changes-outcome.result c.of_refusal.result
    (sym c.in_ok-unless_transient.ensures.same ∙ c.in-Err.is)
    (subst (λ (r : Result RequestChanges Refusal). IfErr r (λ refusal. is_transient (cause_of refusal) ≡ false)) c.in-Err.is c.in_ok-unless_transient.ensures.kept)
    c.run_changes-outcome.ensures.over_tree c.of_refusal.ensures.file c.of_refusal.ensures.fits

pub returns-clause-why : goal.returns-clause-why
returns-clause-why g c =
    let before = g.T.Tree.agrees c.run_changes-outcome.new.tree in
    let now = g.T.Tree.agrees c.of_refusal.new.tree in
    let limits = c.args.refused.limits in
    let shell = c.args.refused.request.now.shell in
    let e = c.args.refused.env.now in
    let action = action_view c.args.refused.request.now.action in
    whys now limits shell e action c.of_refusal.result
    (outcomes_of before now limits shell e action c.of_refusal.ensures.reads.narrows c.in-Err.refusal _ c.run_changes-outcome.result c.of_refusal.result
    (sym c.in_ok-unless_transient.ensures.same ∙ c.in-Err.is)
    (subst (λ (r : Result RequestChanges Refusal). IfErr r (λ refusal. is_transient (cause_of refusal) ≡ false)) c.in-Err.is c.in_ok-unless_transient.ensures.kept)
    c.run_changes-outcome.ensures.over_tree c.of_refusal.ensures.file c.of_refusal.ensures.fits)
