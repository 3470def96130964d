use Rattle.std.proofs.Common.{List, map, string_bytes, String, refl, ap, ◌∙◌, arith}
use Rattle.std.proofs.lemmas.Result.{err_from_is_err_and}
use Rattle.std.specs.declared.alloc.Global.{Global}
use Rattle.envvars.specs.Texts.{Text}
use Rattle.filetree.specs.Agreement.{InEachPair}
use Rattle.filetree.proofs.FailedPaths.{fails_then}
use Rattle.requests.specs.Reasons.{RequestReason}
use Rattle.requests.specs.Steps.{request_context_in}
use Rattle.modules.specs.Answers.{cause_of, is_failure}
use Rattle.modules.proofs.StepLemmas.{stands_as}
use Rattle.modules.proofs.TreeAnswers.{reads_both, same_tree}
use Rattle.module_auto.specs.Loads.{AutomaticLoadLooksAt, RefusesLoad}
use Rattle.module_auto.specs.Views.{IsPlan}
use Rattle.module_auto.proofs.PlanLemmas.{all_ready, first_plan}
use Rattle.module_auto.proofs.plan.Plan.completed.Goals as goal

pub loop-plan-init : goal.loop-plan-init
loop-plan-init g c = record {
  reads = same_tree c.args.tree.now;
  unfailed = refl;
  plan = λ files listings a.
      first_plan (request_context_in c.args.limits c.args.shell files listings) c.args.env.now (map (λ (s : String Global). string_bytes s) c.args.asked.now) _ c.in_ok-copies.ensures refl
      c.in_ok-copy.ensures.ok (ap (map (λ (s : String Global). string_bytes s)) c.new.ensures.items);
}

pub loop-plan-preserved : goal.loop-plan-preserved
loop-plan-preserved g c = record {
  reads = reads_both _ _ _ c.loop-plan.invariant.reads c.advance.ensures.reads;
  unfailed = c.in_ok-advance.ensures.failed ∙ c.loop-plan.invariant.unfailed;
  plan = λ files listings a.
      c.in_ok-advance.ensures.advanced files listings a (map (λ (s : String Global). string_bytes s) c.args.asked.now)
      (c.loop-plan.invariant.plan files listings (c.advance.ensures.reads.narrows files listings a));
}

pub returns-in_err-advance-clause-refused : goal.returns-in_err-advance-clause-refused
returns-in_err-advance-clause-refused g c =
    let p = err_from_is_err_and c.from_residual-in_err-advance.result c.from_residual-in_err-advance.ensures.1 in
    let e = c.args.env.now in
    let old = c.loop-plan.plan in
    let asked : List Text = map (λ (s : String Global). string_bytes s) c.args.asked.now in
    let agrees = g.T.Tree.agrees c.advance.new.tree in
    let narrows = c.advance.ensures.reads.narrows in
    let Here : RequestReason → Type 0 = λ reason. InEachPair agrees (λ files listings. (asked' : List Text) → IsPlan (request_context_in c.args.limits c.args.shell files listings) e asked' old
    → RefusesLoad (request_context_in c.args.limits c.args.shell files listings) e asked' reason) in
    let Whole : RequestReason → Type 0 = λ reason. InEachPair agrees (λ files listings. RefusesLoad (request_context_in c.args.limits c.args.shell files listings) e asked reason) in
    rw (p.1, p.2) (stands_as (cause_of c.in_err-advance.field-0.0) _ _ Here Whole (λ q. omega (arith, q, c.loop-plan.invariant.reads.counts_failures))
    (λ reason h files listings a. h files listings a asked (c.loop-plan.invariant.plan files listings (narrows files listings a))) c.in_err-advance.ensures.refused)

pub returns-in_err-advance-clause-failed : goal.returns-in_err-advance-clause-failed
returns-in_err-advance-clause-failed g c =
    let p = err_from_is_err_and c.from_residual-in_err-advance.result c.from_residual-in_err-advance.ensures.1 in
    let e = c.args.env.now in
    let old = c.loop-plan.plan in
    let asked : List Text = map (λ (s : String Global). string_bytes s) c.args.asked.now in
    let agrees = g.T.Tree.agrees c.advance.new.tree in
    let narrows = c.advance.ensures.reads.narrows in
    let fails = is_failure c.in_err-advance.field-0.0 in
    let Here : Text → Type 0 = λ at. InEachPair agrees (λ files listings. (asked' : List Text) → IsPlan (request_context_in c.args.limits c.args.shell files listings) e asked' old
    → AutomaticLoadLooksAt (request_context_in c.args.limits c.args.shell files listings) e asked' at) in
    let Whole : Text → Type 0 = λ at. InEachPair agrees (λ files listings. AutomaticLoadLooksAt (request_context_in c.args.limits c.args.shell files listings) e asked at) in
    rw (p.1, p.2) (fails_then fails fails (g.T.Tree.failed c.args.tree.now) (g.T.Tree.failed c.loop-plan.tree) (g.T.Tree.failed c.advance.new.tree) Here Whole c.loop-plan.invariant.unfailed refl
    (λ at h files listings a. h files listings a asked (c.loop-plan.invariant.plan files listings (narrows files listings a))) c.in_err-advance.ensures.failed)

pub returns-clause-completed : goal.returns-clause-completed
returns-clause-completed g c =
    λ files listings a.
    all_ready (request_context_in c.args.limits c.args.shell files listings) c.args.env.now (map (λ (s : String Global). string_bytes s) c.args.asked.now) c.loop-plan.plan
    (omega arith) (c.loop-plan.invariant.plan files listings a)
