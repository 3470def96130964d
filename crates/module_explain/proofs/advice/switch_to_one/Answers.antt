use Rattle.std.proofs.Common.{arith, Option, ap, subst, ◌∙◌, Some}
use Rattle.std.specs.Prelude.{IfSome}
use Rattle.envvars.specs.Texts.{Text}
use Rattle.requests.specs.RequestViews.{action_view}
use Rattle.requests.specs.Requests.{switch}
use Rattle.module_explain.specs.Views.{IsTried}
use Rattle.module_explain.specs.declared.advice.Advice.{Advice}
use Rattle.module_explain.proofs.AdviceLemmas.{first_one, none_switched, one_more, refused_if}
use Rattle.module_explain.proofs.advice.switch_to_one.Goals as goal

pub returns-in-Some-clause-switches : goal.returns-in-Some-clause-switches
returns-in-Some-clause-switches g c = (
  c.in_ok-switch.switch,
  subst (λ (o : Option Advice). IfSome o (IsTried c.in_ok-switch.switch)) c.in-Some.is c.in_ok-advice.ensures.tried,
  first_one (g.T.Tree.agrees c.loop-name.tree) (g.T.Tree.agrees c.if_accepted.new.tree) c.args.refused.limits c.args.refused.request.now.shell c.args.refused.env.now
      c.if_accepted.ensures.reads.narrows c.args.other.now c.args.names.now c.loop-name.name-index c.name-item.result c.loop-name-test.true c.name-item.is (action_view c.in_ok-switch.switch)
      (c.in_ok-switch.ensures ∙ ap (λ (t : Text). switch (Some c.args.other.now) t) c.as_str.ensures.value) c.loop-name.invariant.none,
)

pub loop-name-preserved : goal.loop-name-preserved
loop-name-preserved g c = record {
  narrows = λ files listings a. c.loop-name.invariant.narrows files listings (c.if_accepted.ensures.reads.narrows files listings a);
  counts = omega arith;
  none = one_more (g.T.Tree.agrees c.loop-name.tree) (g.T.Tree.agrees c.if_accepted.new.tree) c.args.refused.limits c.args.refused.request.now.shell c.args.refused.env.now
      c.if_accepted.ensures.reads.narrows c.args.other.now c.args.names.now c.loop-name.name-index c.name-item.result c.loop-name-test.true c.name-item.is (action_view c.in_ok-switch.switch)
      (c.in_ok-switch.ensures ∙ ap (λ (t : Text). switch (Some c.args.other.now) t) c.as_str.ensures.value) c.loop-name.invariant.none
      (refused_if (g.T.Tree.agrees c.if_accepted.new.tree) c.args.refused.limits c.args.refused.request.now.shell c.args.refused.env.now (action_view c.in_ok-switch.switch)
      c.in_ok-advice.field-0 c.in_default.is c.in_ok-advice.ensures.none);
}

pub returns-clause-switches : goal.returns-clause-switches
returns-clause-switches g c =
    none_switched (g.T.Tree.agrees c.loop-name.tree) c.args.refused.limits c.args.refused.request.now.shell c.args.refused.env.now c.args.other.now c.args.names.now c.loop-name.name-index
    c.loop-name-test.false c.loop-name.invariant.none
