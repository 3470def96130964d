use Rattle.std.proofs.Common.{◌≡◌, ◌+◌, List, map, take, string_bytes, String, Err, refl, sym, ap, subst, arith}
use Rattle.std.specs.declared.alloc.Global.{Global}
use Rattle.envvars.specs.Texts.{Text, texts_in}
use Rattle.filetree.specs.Agreement.{InEachPair}
use Rattle.filetree.proofs.FailedPaths.{fails_last, fails_then}
use Rattle.shelltext.specs.declared.shell.Shell.{Shell}
use Rattle.requests.specs.Looked.{RequestLooksAt}
use Rattle.requests.specs.Reasons.{RequestReason, prereq_missing}
use Rattle.requests.specs.Requests.{load}
use Rattle.requests.specs.Steps.{RequestStep, request_context_in}
use Rattle.modules.specs.Answers.{cause_of, is_failure}
use Rattle.modules.proofs.StepLemmas.{stands_as}
use Rattle.module_auto.specs.Loads.{AnyLooksAt, AutomaticLoadLooksAt, RefusesLoad}
use Rattle.module_auto.specs.Views.{IsPlan, IsUnmet, PutsIn}
use Rattle.module_auto.proofs.FinalLemmas.{IsOther, final_load}
use Rattle.module_auto.proofs.PlanLemmas.{need_looks, one_put, one_ready, refuses, stuck, try_looks}
use Rattle.module_auto.proofs.ResultLemmas.{if_err, on_ok}
use Rattle.module_auto.proofs.UnloadLemmas.{known_reason, known_unfailed}
use Rattle.module_auto.proofs.plan.Plan.advance.Goals as goal

pub returns-in-Ok-clause-advanced : goal.returns-in-Ok-clause-advanced
returns-in-Ok-clause-advanced g c =
    let loaded = rw c.deref.ensures.value at c.in-Ok.ensures.loaded in
    λ files listings a asked plan.
    one_ready (request_context_in c.args.limits c.args.shell files listings) c.args.env.now asked c.args.self.now c.requires plan c.in-Ok.after (loaded files listings a) _ refl refl refl refl

pub returns-in-PrereqMissing-clause-advanced : goal.returns-in-PrereqMissing-clause-advanced
returns-in-PrereqMissing-clause-advanced g c =
    let old = c.args.self.now in
    let e = c.args.env.now in
    let missing = texts_in c.in-PrereqMissing.missing.names in
    let tried : List Text = map (λ (x : String Global). string_bytes x) (take (old.ready + 1) old.names.items) in
    let agrees = g.T.Tree.agrees c.put_in.new.tree in
    let Step : RequestReason → Type 0 = λ r. InEachPair (g.T.Tree.agrees c.loaded.new.tree) (λ files listings. RequestStep (request_context_in c.args.limits c.args.shell files listings) e (load tried) (Err r)) in
    let step = known_reason (cause_of c.in-Err.refusal) (prereq_missing missing) _ Step (ap cause_of c.in-PrereqMissing.is) (rw c.deref.ensures.value at c.in-Err.ensures.refused) in
    let Put : Type 0 = InEachPair agrees (λ files listings. (shell : Shell) → PutsIn (request_context_in c.args.limits shell files listings) missing old c.put_in.new.self) in
    let Whole : Type 0 = InEachPair agrees (λ files listings. (asked : List Text) → IsPlan (request_context_in c.args.limits c.args.shell files listings) e asked old
    → IsPlan (request_context_in c.args.limits c.args.shell files listings) e asked c.put_in.new.self) in
    on_ok c.put_in.result Put Whole
    (λ put files listings a asked plan. one_put (request_context_in c.args.limits c.args.shell files listings) e asked old c.requires plan missing c.put_in.new.self
    (step files listings (c.put_in.ensures.reads.narrows files listings a)) (put files listings a c.args.shell)) c.put_in.ensures.advanced

pub returns-in-PrereqMissing-clause-refused : goal.returns-in-PrereqMissing-clause-refused
returns-in-PrereqMissing-clause-refused g c =
    let old = c.args.self.now in
    let e = c.args.env.now in
    let missing = texts_in c.in-PrereqMissing.missing.names in
    let tried : List Text = map (λ (x : String Global). string_bytes x) (take (old.ready + 1) old.names.items) in
    let agrees = g.T.Tree.agrees c.put_in.new.tree in
    let Step : RequestReason → Type 0 = λ r. InEachPair (g.T.Tree.agrees c.loaded.new.tree) (λ files listings. RequestStep (request_context_in c.args.limits c.args.shell files listings) e (load tried) (Err r)) in
    let step = known_reason (cause_of c.in-Err.refusal) (prereq_missing missing) _ Step (ap cause_of c.in-PrereqMissing.is) (rw c.deref.ensures.value at c.in-Err.ensures.refused) in
    let Unmet : RequestReason → Type 0 = λ reason. (reason ≡ prereq_missing missing)
    × InEachPair agrees (λ files listings. (shell : Shell) → IsUnmet (request_context_in c.args.limits shell files listings) old.after (texts_in old.added) missing) in
    let Whole : RequestReason → Type 0 = λ reason. InEachPair agrees (λ files listings. (asked : List Text) → IsPlan (request_context_in c.args.limits c.args.shell files listings) e asked old
    → RefusesLoad (request_context_in c.args.limits c.args.shell files listings) e asked reason) in
    if_err c.put_in.result _ _
    (λ refusal h. stands_as (cause_of refusal) _ _ Unmet Whole (λ q. omega (arith, q, c.loaded.ensures.reads.counts_failures))
    (λ reason (same, unmet) files listings a asked plan.
    let s = request_context_in c.args.limits c.args.shell files listings in
    subst (λ (r : RequestReason). RefusesLoad s e asked r) (sym same)
    (stuck s e asked old c.requires plan missing (step files listings (c.put_in.ensures.reads.narrows files listings a)) (unmet files listings a c.args.shell))) h)
    c.put_in.ensures.refused

pub returns-in-PrereqMissing-clause-failed : goal.returns-in-PrereqMissing-clause-failed
returns-in-PrereqMissing-clause-failed g c =
    let old = c.args.self.now in
    let e = c.args.env.now in
    let missing = texts_in c.in-PrereqMissing.missing.names in
    let tried : List Text = map (λ (x : String Global). string_bytes x) (take (old.ready + 1) old.names.items) in
    let agrees = g.T.Tree.agrees c.put_in.new.tree in
    let start = g.T.Tree.failed c.args.tree.now in
    let before = g.T.Tree.failed c.loaded.new.tree in
    let Step : RequestReason → Type 0 = λ r. InEachPair (g.T.Tree.agrees c.loaded.new.tree) (λ files listings. RequestStep (request_context_in c.args.limits c.args.shell files listings) e (load tried) (Err r)) in
    let step = known_reason (cause_of c.in-Err.refusal) (prereq_missing missing) _ Step (ap cause_of c.in-PrereqMissing.is) (rw c.deref.ensures.value at c.in-Err.ensures.refused) in
    let unfailed = known_unfailed (cause_of c.in-Err.refusal) (prereq_missing missing) start before _ (ap cause_of c.in-PrereqMissing.is) c.in-Err.ensures.failed in
    let Any : Text → Type 0 = λ at. InEachPair agrees (λ files listings. (shell : Shell) → AnyLooksAt (request_context_in c.args.limits shell files listings) old.after missing at) in
    let Whole : Text → Type 0 = λ at. InEachPair agrees (λ files listings. (asked : List Text) → IsPlan (request_context_in c.args.limits c.args.shell files listings) e asked old
    → AutomaticLoadLooksAt (request_context_in c.args.limits c.args.shell files listings) e asked at) in
    fails_last is_failure start before (g.T.Tree.failed c.put_in.new.tree) c.put_in.result Any Whole unfailed
    (λ at looks files listings a asked plan. need_looks (request_context_in c.args.limits c.args.shell files listings) e asked old c.requires plan missing at
    (step files listings (c.put_in.ensures.reads.narrows files listings a)) (looks files listings a c.args.shell)) c.put_in.ensures.failed

pub returns-in_default-clause-refused : goal.returns-in_default-clause-refused
returns-in_default-clause-refused g c =
    let old = c.args.self.now in
    let e = c.args.env.now in
    let tried : List Text = map (λ (x : String Global). string_bytes x) (take (old.ready + 1) old.names.items) in
    let agrees = g.T.Tree.agrees c.loaded.new.tree in
    let Step : RequestReason → Type 0 = λ r. InEachPair agrees (λ files listings. RequestStep (request_context_in c.args.limits c.args.shell files listings) e (load tried) (Err r)) in
    let Other : RequestReason → Type 0 = λ r. Step r × IsOther r in
    let Whole : RequestReason → Type 0 = λ reason. InEachPair agrees (λ files listings. (asked : List Text) → IsPlan (request_context_in c.args.limits c.args.shell files listings) e asked old
    → RefusesLoad (request_context_in c.args.limits c.args.shell files listings) e asked reason) in
    stands_as (cause_of c.in-Err.refusal) _ _ Other Whole (λ q. q)
    (λ r (step, final) files listings a asked plan. refuses (request_context_in c.args.limits c.args.shell files listings) e asked old c.requires plan r (step files listings a)
    (λ names. final.1 (request_context_in c.args.limits c.args.shell files listings) e (texts_in old.added) names))
    (final_load c.in-Err.refusal _ Step c.in_default.not-PrereqMissing (rw c.deref.ensures.value at c.in-Err.ensures.refused))

pub returns-in_default-clause-failed : goal.returns-in_default-clause-failed
returns-in_default-clause-failed g c =
    let old = c.args.self.now in
    let e = c.args.env.now in
    let tried : List Text = map (λ (x : String Global). string_bytes x) (take (old.ready + 1) old.names.items) in
    let agrees = g.T.Tree.agrees c.loaded.new.tree in
    let start = g.T.Tree.failed c.args.tree.now in
    let fails = is_failure c.in-Err.refusal in
    let Here : Text → Type 0 = λ at. InEachPair agrees (λ files listings. RequestLooksAt (request_context_in c.args.limits c.args.shell files listings) e (load tried) at) in
    let Whole : Text → Type 0 = λ at. InEachPair agrees (λ files listings. (asked : List Text) → IsPlan (request_context_in c.args.limits c.args.shell files listings) e asked old
    → AutomaticLoadLooksAt (request_context_in c.args.limits c.args.shell files listings) e asked at) in
    fails_then fails fails start start (g.T.Tree.failed c.loaded.new.tree) Here Whole refl refl
    (λ at looks files listings a asked plan. try_looks (request_context_in c.args.limits c.args.shell files listings) e asked old c.requires plan at (looks files listings a))
    (rw c.deref.ensures.value at c.in-Err.ensures.failed)
