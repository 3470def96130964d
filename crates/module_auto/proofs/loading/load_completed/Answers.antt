use Rattle.std.proofs.Common.{List, map, string_bytes, String, Err, refl, ◌∙◌, arith}
use Rattle.std.proofs.lemmas.Result.{err_from_is_err_and}
use Rattle.std.specs.declared.alloc.Global.{Global}
use Rattle.envvars.specs.Texts.{Text, texts_in}
use Rattle.filetree.specs.Agreement.{InEachPair}
use Rattle.filetree.proofs.FailedPaths.{fails_then, only_if, only_none}
use Rattle.requests.specs.Looked.{RequestLooksAt}
use Rattle.requests.specs.Reasons.{RequestReason}
use Rattle.requests.specs.Requests.{load}
use Rattle.requests.specs.Steps.{RequestStep, request_context_in}
use Rattle.modules.specs.Answers.{cause_of, is_failure}
use Rattle.modules.proofs.StepLemmas.{stands_as}
use Rattle.module_auto.specs.Answers.{Outcomes}
use Rattle.module_auto.specs.Loads.{AutomaticLoadLooksAt, CompletedLoad, Completes, RefusesLoad}
use Rattle.module_auto.proofs.AnswerLemmas.{answered, faulted, of_names}
use Rattle.module_auto.proofs.LoadLemmas.{last_looks, last_refuses}
use Rattle.module_auto.proofs.loading.load_completed.Goals as goal

pub returns-in_err-plan-clause-failed : goal.returns-in_err-plan-clause-failed
returns-in_err-plan-clause-failed g c = only_if _ _ _ _ c.in_err-plan.ensures.failed

pub returns-in_err-changed-clause-refused : goal.returns-in_err-changed-clause-refused
returns-in_err-changed-clause-refused g c =
    let p = err_from_is_err_and c.from_residual-in_err-changed.result c.from_residual-in_err-changed.ensures.1 in
    let e = c.args.env.now in
    let plan = c.in_ok-plan.plan in
    let names = texts_in plan.names in
    let asked : List Text = map (λ (s : String Global). string_bytes s) c.args.names.now in
    let agrees = g.T.Tree.agrees c.load.new.tree in
    let narrows = c.load.ensures.reads.narrows in
    let Here : RequestReason → Type 0 = λ reason. InEachPair agrees (λ files listings. RequestStep (request_context_in c.args.limits c.args.shell files listings) e (load names) (Err reason)) in
    let Whole : RequestReason → Type 0 = λ reason. InEachPair agrees (λ files listings. RefusesLoad (request_context_in c.args.limits c.args.shell files listings) e asked reason) in
    rw (p.1, p.2) (stands_as (cause_of c.in_err-changed.field-0.0) _ _ Here Whole (λ q. omega (arith, q, c.in_ok-plan.ensures.reads.counts_failures))
    (λ reason h files listings a.
    let s = request_context_in c.args.limits c.args.shell files listings in
    let is = c.in_ok-plan.ensures.completed files listings (narrows files listings a) in
    last_refuses s e asked (texts_in plan.added) names is.completed c.outcomes.ensures.one plan.after reason is.loaded (h files listings a))
    (rw c.as_slice.ensures.value at c.in_err-changed.ensures.over_tree))

pub returns-in_err-changed-clause-failed : goal.returns-in_err-changed-clause-failed
returns-in_err-changed-clause-failed g c =
    let e = c.args.env.now in
    let plan = c.in_ok-plan.plan in
    let names = texts_in plan.names in
    let asked : List Text = map (λ (s : String Global). string_bytes s) c.args.names.now in
    let agrees = g.T.Tree.agrees c.load.new.tree in
    let narrows = c.load.ensures.reads.narrows in
    let fails = is_failure c.in_err-changed.field-0.0 in
    let Here : Text → Type 0 = λ at. InEachPair agrees (λ files listings. RequestLooksAt (request_context_in c.args.limits c.args.shell files listings) e (load names) at) in
    let Whole : Text → Type 0 = λ at. InEachPair agrees (λ files listings. AutomaticLoadLooksAt (request_context_in c.args.limits c.args.shell files listings) e asked at) in
    only_if _ _ _ _ (fails_then fails fails (g.T.Tree.failed c.args.tree.now) (g.T.Tree.failed c.completed.new.tree) (g.T.Tree.failed c.load.new.tree) Here Whole c.in_ok-plan.ensures.failed refl
    (λ at h files listings a.
    let s = request_context_in c.args.limits c.args.shell files listings in
    let is = c.in_ok-plan.ensures.completed files listings (narrows files listings a) in
    last_looks s e asked (texts_in plan.added) names is.completed at (h files listings a))
    (rw c.as_slice.ensures.value at c.in_err-changed.ensures.failed))

pub returns-clause-loaded : goal.returns-clause-loaded
returns-clause-loaded g c =
    answered (g.T.Tree.agrees c.load.new.tree) c.args.shell c.args.env.now c.in_ok-changed.changed c.args.limits load c.in_ok-plan.plan.names c.in_ok-plan.plan.added c.answer_of.result
    (rw c.as_slice.ensures.value at c.in_ok-changed.ensures.over_tree) c.answer_of.ensures.said c.answer_of.ensures.done c.answer_of.ensures.names

pub returns-clause-completed : goal.returns-clause-completed
returns-clause-completed g c =
    let e = c.args.env.now in
    let asked : List Text = map (λ (s : String Global). string_bytes s) c.args.names.now in
    let narrows = c.load.ensures.reads.narrows in
    let P : List Text → List Text → Type 0 = λ added names.
    InEachPair (g.T.Tree.agrees c.load.new.tree) (λ files listings. Completes (request_context_in c.args.limits c.args.shell files listings) e asked added names) in
    of_names c.in_ok-plan.plan.names c.in_ok-plan.plan.added c.answer_of.result P (λ files listings a. (c.in_ok-plan.ensures.completed files listings (narrows files listings a)).completed)
    c.answer_of.ensures.names

pub returns-clause-refused : goal.returns-clause-refused
returns-clause-refused g c =
    let e = c.args.env.now in
    let plan = c.in_ok-plan.plan in
    let asked : List Text = map (λ (s : String Global). string_bytes s) c.args.names.now in
    let narrows = c.load.ensures.reads.narrows in
    let step = rw c.as_slice.ensures.value at c.in_ok-changed.ensures.over_tree in
    let Comes : Outcomes = λ files listings. CompletedLoad (request_context_in c.args.limits c.args.shell files listings) e asked in
    faulted (g.T.Tree.agrees c.load.new.tree) c.args.shell e c.in_ok-changed.changed _ Comes c.answer_of.result
    (λ files listings a. (texts_in plan.added, texts_in plan.names, (c.in_ok-plan.ensures.completed files listings (narrows files listings a)).completed, step files listings a))
    c.answer_of.ensures.fault

pub returns-clause-failed : goal.returns-clause-failed
returns-clause-failed g c = only_none _ _ _ (c.in_ok-changed.ensures.failed ∙ c.in_ok-plan.ensures.failed)
