use Rattle.std.proofs.Common.{◌≡◌, List, [], map, string_bytes, String, Ok, Err, inl, inr, refl, sym, ap, subst, arith}
use Rattle.std.proofs.lemmas.Result.{IfOk-weaker}
use Rattle.std.specs.declared.alloc.Global.{Global}
use Rattle.envvars.specs.Texts.{Text, texts_in}
use Rattle.filetree.specs.Agreement.{FailsOnlyWhere, InEachPair}
use Rattle.filetree.proofs.FailedPaths.{fails_then, only_if}
use Rattle.requests.specs.Looked.{RequestLooksAt}
use Rattle.requests.specs.Reasons.{RequestReason, prereq_missing}
use Rattle.requests.specs.Requests.{load}
use Rattle.requests.specs.Steps.{Done, RequestStep, request_context_in}
use Rattle.modules.specs.Answers.{cause_of, is_failure}
use Rattle.modules.specs.Replies.{changed_view}
use Rattle.modules.proofs.StepLemmas.{stands_as}
use Rattle.module_auto.specs.Answers.{Outcomes}
use Rattle.module_auto.specs.Loads.{AutomaticLoad, AutomaticLoadLooksAt, AutomaticNames, CompletedLoad, Completes}
use Rattle.module_auto.specs.declared.answer.AutomaticAnswer.{AutomaticAnswer}
use Rattle.module_auto.proofs.AnswerLemmas.{answered, faulted, faults_among, of_names}
use Rattle.module_auto.proofs.FinalLemmas.{IsOther, final_load}
use Rattle.module_auto.proofs.LoadLemmas.{first_looks}
use Rattle.module_auto.proofs.ResultLemmas.{if_ok}
use Rattle.module_auto.proofs.UnloadLemmas.{known_reason, known_unfailed}
use Rattle.module_auto.proofs.loading.load_automatically.Goals as goal

pub returns-in_ok-own-in-Ok-clause-loaded : goal.returns-in_ok-own-in-Ok-clause-loaded
returns-in_ok-own-in-Ok-clause-loaded g c =
    let agrees = g.T.Tree.agrees c.load.new.tree in
    let done = changed_view c.args.env.now c.in-Ok.changed in
    let Stepped : List Text → Type 0 = λ l. InEachPair agrees (λ files listings. RequestStep (request_context_in c.args.limits c.args.shell files listings) c.args.env.now (load l) (Ok done)) in
    answered agrees c.args.shell c.args.env.now c.in-Ok.changed c.args.limits load c.in_ok-own-in-Ok.own c.new.result c.answer_of.result
    (subst Stepped (sym c.in_ok-own-in-Ok.ensures) c.in-Ok.ensures.over_tree) c.answer_of.ensures.said c.answer_of.ensures.done c.answer_of.ensures.names

pub returns-in_ok-own-in-Ok-clause-named : goal.returns-in_ok-own-in-Ok-clause-named
returns-in_ok-own-in-Ok-clause-named g c =
    let e = c.args.env.now in
    let done = changed_view e c.in-Ok.changed in
    let asked : List Text = map (λ (s : String Global). string_bytes s) c.args.names.now in
    let none : texts_in c.new.result ≡ [] = ap (map (λ (s : String Global). string_bytes s)) c.new.ensures.items in
    let P : List Text → List Text → Type 0 = λ added names.
    InEachPair (g.T.Tree.agrees c.load.new.tree) (λ files listings. AutomaticNames (request_context_in c.args.limits c.args.shell files listings) e asked added names) in
    of_names c.in_ok-own-in-Ok.own c.new.result c.answer_of.result P
    (subst (λ (l : List Text). P l (texts_in c.in_ok-own-in-Ok.own)) (sym none)
    (subst (λ (l : List Text). P [] l) (sym c.in_ok-own-in-Ok.ensures) (λ files listings a. inl (done, c.in-Ok.ensures.over_tree files listings a, refl, refl)))) c.answer_of.ensures.names

pub returns-in_ok-own-in-Ok-clause-refused : goal.returns-in_ok-own-in-Ok-clause-refused
returns-in_ok-own-in-Ok-clause-refused g c =
    let e = c.args.env.now in
    let asked : List Text = map (λ (s : String Global). string_bytes s) c.args.names.now in
    let Comes : Outcomes = λ files listings. AutomaticLoad (request_context_in c.args.limits c.args.shell files listings) e asked in
    faulted (g.T.Tree.agrees c.load.new.tree) c.args.shell e c.in-Ok.changed _ Comes c.answer_of.result
    (λ files listings a. inl (changed_view e c.in-Ok.changed, c.in-Ok.ensures.over_tree files listings a, refl)) c.answer_of.ensures.fault

pub returns-in-PrereqMissing-clause-named : goal.returns-in-PrereqMissing-clause-named
returns-in-PrereqMissing-clause-named g c =
    let e = c.args.env.now in
    let missing = texts_in c.in-PrereqMissing.field-0.names in
    let asked : List Text = map (λ (s : String Global). string_bytes s) c.args.names.now in
    let agrees = g.T.Tree.agrees c.load_completed.new.tree in
    let Step : RequestReason → Type 0 = λ r. InEachPair (g.T.Tree.agrees c.load.new.tree) (λ files listings. RequestStep (request_context_in c.args.limits c.args.shell files listings) e (load asked) (Err r)) in
    let refused = known_reason (cause_of c.in-Err.refusal) (prereq_missing missing) _ Step (ap cause_of c.in-PrereqMissing.is) c.in-Err.ensures.over_tree in
    let P : AutomaticAnswer → Type 0 = λ answer.
    InEachPair agrees (λ files listings. Completes (request_context_in c.args.limits c.args.shell files listings) e asked (texts_in answer.added) (texts_in answer.names)) in
    let Q : AutomaticAnswer → Type 0 = λ answer.
    InEachPair agrees (λ files listings. AutomaticNames (request_context_in c.args.limits c.args.shell files listings) e asked (texts_in answer.added) (texts_in answer.names)) in
    IfOk-weaker c.load_completed.result P Q
    (λ answer completed files listings a. inr ((missing, refused files listings (c.load_completed.ensures.reads.narrows files listings a)), completed files listings a))
    c.load_completed.ensures.completed

pub returns-in-PrereqMissing-clause-as_asked : goal.returns-in-PrereqMissing-clause-as_asked
returns-in-PrereqMissing-clause-as_asked g c =
    let e = c.args.env.now in
    let missing = texts_in c.in-PrereqMissing.field-0.names in
    let asked : List Text = map (λ (s : String Global). string_bytes s) c.args.names.now in
    let Step : RequestReason → Type 0 = λ r. InEachPair (g.T.Tree.agrees c.load.new.tree) (λ files listings. RequestStep (request_context_in c.args.limits c.args.shell files listings) e (load asked) (Err r)) in
    let refused = known_reason (cause_of c.in-Err.refusal) (prereq_missing missing) _ Step (ap cause_of c.in-PrereqMissing.is) c.in-Err.ensures.over_tree in
    let P : AutomaticAnswer → Type 0 = λ answer.
    InEachPair (g.T.Tree.agrees c.load_completed.new.tree) (λ files listings. (d : Done)
    → RequestStep (request_context_in c.args.limits c.args.shell files listings) e (load asked) (Ok d) → texts_in answer.names ≡ asked) in
    if_ok c.load_completed.result P
    (λ answer files listings a d step.
    let s = request_context_in c.args.limits c.args.shell files listings in
    let other = refused files listings (c.load_completed.ensures.reads.narrows files listings a) in
    let same : Ok d ≡ Err (prereq_missing missing) = c.outcomes.ensures.one s e (load asked) (Ok d) (Err (prereq_missing missing)) step other in
    absurd (cc))

pub returns-in-PrereqMissing-clause-refused : goal.returns-in-PrereqMissing-clause-refused
returns-in-PrereqMissing-clause-refused g c =
    let e = c.args.env.now in
    let asked : List Text = map (λ (s : String Global). string_bytes s) c.args.names.now in
    let missing = texts_in c.in-PrereqMissing.field-0.names in
    let Step : RequestReason → Type 0 = λ r. InEachPair (g.T.Tree.agrees c.load.new.tree) (λ files listings. RequestStep (request_context_in c.args.limits c.args.shell files listings) e (load asked) (Err r)) in
    let refused = known_reason (cause_of c.in-Err.refusal) (prereq_missing missing) _ Step (ap cause_of c.in-PrereqMissing.is) c.in-Err.ensures.over_tree in
    let Comes : Outcomes = λ files listings. CompletedLoad (request_context_in c.args.limits c.args.shell files listings) e asked in
    let Whole : Outcomes = λ files listings. AutomaticLoad (request_context_in c.args.limits c.args.shell files listings) e asked in
    faults_among (g.T.Tree.agrees c.load_completed.new.tree) c.args.shell e _ _ Comes Whole c.load_completed.result (λ q. omega (arith, q, c.load.ensures.reads.counts_failures))
    (λ files listings a o k. inr (inr ((missing, refused files listings (c.load_completed.ensures.reads.narrows files listings a)), k))) c.load_completed.ensures.refused

pub returns-in-PrereqMissing-clause-failed : goal.returns-in-PrereqMissing-clause-failed
returns-in-PrereqMissing-clause-failed g c =
    let e = c.args.env.now in
    let missing = texts_in c.in-PrereqMissing.field-0.names in
    let asked : List Text = map (λ (s : String Global). string_bytes s) c.args.names.now in
    let start = g.T.Tree.failed c.args.tree.now in
    let before = g.T.Tree.failed c.load.new.tree in
    let now = g.T.Tree.failed c.load_completed.new.tree in
    let unfailed = known_unfailed (cause_of c.in-Err.refusal) (prereq_missing missing) start before _ (ap cause_of c.in-PrereqMissing.is) c.in-Err.ensures.failed in
    let Whole : Text → Type 0 = λ at.
    InEachPair (g.T.Tree.agrees c.load_completed.new.tree) (λ files listings. AutomaticLoadLooksAt (request_context_in c.args.limits c.args.shell files listings) e asked at) in
    subst (λ f. FailsOnlyWhere f now Whole) unfailed c.load_completed.ensures.failed

pub returns-in_default-clause-refused : goal.returns-in_default-clause-refused
returns-in_default-clause-refused g c =
    let e = c.args.env.now in
    let asked : List Text = map (λ (s : String Global). string_bytes s) c.args.names.now in
    let agrees = g.T.Tree.agrees c.load.new.tree in
    let Step : RequestReason → Type 0 = λ r. InEachPair agrees (λ files listings. RequestStep (request_context_in c.args.limits c.args.shell files listings) e (load asked) (Err r)) in
    let Other : RequestReason → Type 0 = λ r. Step r × IsOther r in
    let Whole : RequestReason → Type 0 = λ reason. InEachPair agrees (λ files listings. AutomaticLoad (request_context_in c.args.limits c.args.shell files listings) e asked (Err reason)) in
    stands_as (cause_of c.in-Err.refusal) _ _ Other Whole (λ q. q)
    (λ r (step, (other, final)) files listings a. inr (inl (step files listings a, other)))
    (final_load c.in-Err.refusal _ Step c.in_default.not-PrereqMissing c.in-Err.ensures.over_tree)

pub returns-in_default-clause-failed : goal.returns-in_default-clause-failed
returns-in_default-clause-failed g c =
    let e = c.args.env.now in
    let asked : List Text = map (λ (s : String Global). string_bytes s) c.args.names.now in
    let agrees = g.T.Tree.agrees c.load.new.tree in
    let start = g.T.Tree.failed c.args.tree.now in
    let fails = is_failure c.in-Err.refusal in
    let Here : Text → Type 0 = λ at. InEachPair agrees (λ files listings. RequestLooksAt (request_context_in c.args.limits c.args.shell files listings) e (load asked) at) in
    let Whole : Text → Type 0 = λ at. InEachPair agrees (λ files listings. AutomaticLoadLooksAt (request_context_in c.args.limits c.args.shell files listings) e asked at) in
    only_if _ _ _ _ (fails_then fails fails start start (g.T.Tree.failed c.load.new.tree) Here Whole refl refl
    (λ at h files listings a. first_looks (request_context_in c.args.limits c.args.shell files listings) e asked at (h files listings a)) c.in-Err.ensures.failed)
