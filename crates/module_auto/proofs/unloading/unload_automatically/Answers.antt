use Rattle.std.proofs.Common.{◌≡◌, List, [], map, string_bytes, String, Err, refl, sym, ap, subst, ◌∙◌}
use Rattle.std.specs.declared.alloc.Global.{Global}
use Rattle.envvars.specs.Texts.{Text, texts_in}
use Rattle.filetree.specs.Agreement.{InEachPair}
use Rattle.filetree.proofs.FailedPaths.{fails_then, only_if, only_none}
use Rattle.requests.specs.Looked.{RequestLooksAt}
use Rattle.requests.specs.Reasons.{RequestReason, still_needed_by}
use Rattle.requests.specs.Requests.{unload}
use Rattle.requests.specs.Steps.{RequestStep, request_context_in}
use Rattle.modules.specs.Answers.{cause_of, is_failure}
use Rattle.modules.specs.Replies.{changed_view}
use Rattle.modules.proofs.TreeAnswers.{reads_both, same_tree}
use Rattle.module_auto.specs.Answers.{Outcomes}
use Rattle.module_auto.specs.Unloads.{AutomaticUnload, AutomaticUnloadLooksAt, StillNeed, in_front}
use Rattle.module_auto.proofs.AnswerLemmas.{answered, faulted, of_names}
use Rattle.module_auto.proofs.UnloadLemmas.{known_reason, known_unfailed, longer_names, longer_need, looks, unloads}
use Rattle.module_auto.proofs.unloading.unload_automatically.Goals as goal

pub loop-changed-init : goal.loop-changed-init
loop-changed-init g c =
    let asked : List Text = map (λ (s : String Global). string_bytes s) c.args.asked.now in
    let none : texts_in c.new-added.result ≡ [] = ap (map (λ (s : String Global). string_bytes s)) c.new-added.ensures.items in
    record {
      reads = same_tree c.args.tree.now;
      unfailed = refl;
      needing = λ files listings a. subst (λ (l : List Text). StillNeed (request_context_in c.args.limits c.args.shell files listings) c.args.env.now asked l) (sym none) tt;
      names = subst (λ (l : List Text). texts_in c.in_ok-names.names ≡ in_front l asked) (sym none) c.in_ok-names.ensures;
    }

pub loop-changed-preserved : goal.loop-changed-preserved
loop-changed-preserved g c =
    let e = c.args.env.now in
    let asked : List Text = map (λ (s : String Global). string_bytes s) c.args.asked.now in
    let added = texts_in c.loop-changed.added in
    let names = texts_in c.loop-changed.names in
    let invariant = c.loop-changed.invariant in
    let narrows = c.unload.ensures.reads.narrows in
    let put = c.in_ok-put_in_front-in-Err.ensures.put in
    let start = g.T.Tree.failed c.loop-changed.tree in
    let Step : RequestReason → Type 0 = λ r.
    InEachPair (g.T.Tree.agrees c.unload.new.tree) (λ files listings. RequestStep (request_context_in c.args.limits c.args.shell files listings) e (unload names) (Err r)) in
    let step = known_reason (cause_of c.in-Err.refusal) (still_needed_by put.needing) _ Step put.refused (rw c.as_slice.ensures.value at c.in-Err.ensures.over_tree) in
    let unfailed = known_unfailed (cause_of c.in-Err.refusal) (still_needed_by put.needing) start (g.T.Tree.failed c.unload.new.tree) _ put.refused c.in-Err.ensures.failed in
    record {
      reads = reads_both _ _ _ invariant.reads c.unload.ensures.reads;
      unfailed = unfailed ∙ invariant.unfailed;
      needing = λ files listings a.
          longer_need (request_context_in c.args.limits c.args.shell files listings) e asked added names invariant.names (invariant.needing files listings (narrows files listings a)) put.needing
          (step files listings a) _ _ put.back put.front;
      names = longer_names asked added names invariant.names put.needing _ _ put.back put.front;
    }

pub returns-in-Ok-clause-unloaded : goal.returns-in-Ok-clause-unloaded
returns-in-Ok-clause-unloaded g c =
    answered (g.T.Tree.agrees c.unload.new.tree) c.args.shell c.args.env.now c.in-Ok.changed c.args.limits unload c.loop-changed.names c.loop-changed.added c.answer_of.result
    (rw c.as_slice.ensures.value at c.in-Ok.ensures.over_tree) c.answer_of.ensures.said c.answer_of.ensures.done c.answer_of.ensures.names

pub returns-in-Ok-clause-needing : goal.returns-in-Ok-clause-needing
returns-in-Ok-clause-needing g c =
    let e = c.args.env.now in
    let asked : List Text = map (λ (s : String Global). string_bytes s) c.args.asked.now in
    let narrows = c.unload.ensures.reads.narrows in
    let P : List Text → List Text → Type 0 = λ added names.
    InEachPair (g.T.Tree.agrees c.unload.new.tree) (λ files listings. StillNeed (request_context_in c.args.limits c.args.shell files listings) e asked added) in
    of_names c.loop-changed.names c.loop-changed.added c.answer_of.result P (λ files listings a. c.loop-changed.invariant.needing files listings (narrows files listings a)) c.answer_of.ensures.names

pub returns-in-Ok-clause-names : goal.returns-in-Ok-clause-names
returns-in-Ok-clause-names g c =
    let asked : List Text = map (λ (s : String Global). string_bytes s) c.args.asked.now in
    of_names c.loop-changed.names c.loop-changed.added c.answer_of.result (λ added names. names ≡ in_front added asked) c.loop-changed.invariant.names c.answer_of.ensures.names

pub returns-in-Ok-clause-refused : goal.returns-in-Ok-clause-refused
returns-in-Ok-clause-refused g c =
    let e = c.args.env.now in
    let asked : List Text = map (λ (s : String Global). string_bytes s) c.args.asked.now in
    let invariant = c.loop-changed.invariant in
    let narrows = c.unload.ensures.reads.narrows in
    let step = rw c.as_slice.ensures.value at c.in-Ok.ensures.over_tree in
    let Comes : Outcomes = λ files listings. AutomaticUnload (request_context_in c.args.limits c.args.shell files listings) e asked in
    faulted (g.T.Tree.agrees c.unload.new.tree) c.args.shell e c.in-Ok.changed _ Comes c.answer_of.result
    (λ files listings a. unloads (request_context_in c.args.limits c.args.shell files listings) e asked (texts_in c.loop-changed.added) (texts_in c.loop-changed.names) invariant.names
    (invariant.needing files listings (narrows files listings a)) (changed_view e c.in-Ok.changed) (step files listings a)) c.answer_of.ensures.fault

pub returns-in-Ok-clause-failed : goal.returns-in-Ok-clause-failed
returns-in-Ok-clause-failed g c = only_none _ _ _ (c.in-Ok.ensures.failed ∙ c.loop-changed.invariant.unfailed)

pub returns-in_err-put_in_front-in-Err-clause-failed : goal.returns-in_err-put_in_front-in-Err-clause-failed
returns-in_err-put_in_front-in-Err-clause-failed g c =
    let e = c.args.env.now in
    let asked : List Text = map (λ (s : String Global). string_bytes s) c.args.asked.now in
    let added = texts_in c.loop-changed.added in
    let names = texts_in c.loop-changed.names in
    let invariant = c.loop-changed.invariant in
    let agrees = g.T.Tree.agrees c.unload.new.tree in
    let narrows = c.unload.ensures.reads.narrows in
    let fails = is_failure c.in-Err.refusal in
    let Here : Text → Type 0 = λ at. InEachPair agrees (λ files listings. RequestLooksAt (request_context_in c.args.limits c.args.shell files listings) e (unload names) at) in
    let Whole : Text → Type 0 = λ at. InEachPair agrees (λ files listings. AutomaticUnloadLooksAt (request_context_in c.args.limits c.args.shell files listings) e asked at) in
    only_if _ _ _ _ (fails_then fails fails (g.T.Tree.failed c.args.tree.now) (g.T.Tree.failed c.loop-changed.tree) (g.T.Tree.failed c.unload.new.tree) Here Whole invariant.unfailed refl
    (λ at h files listings a. looks (request_context_in c.args.limits c.args.shell files listings) e asked added names invariant.names (invariant.needing files listings (narrows files listings a)) at
    (h files listings a))
    (rw c.as_slice.ensures.value at c.in-Err.ensures.failed))
