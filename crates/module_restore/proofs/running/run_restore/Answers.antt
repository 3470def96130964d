use Rattle.std.proofs.Common.{List, map, string_bytes, String, Err, refl, arith}
use Rattle.std.proofs.lemmas.Result.{err_from_is_err_and}
use Rattle.std.specs.declared.alloc.Global.{Global}
use Rattle.envvars.specs.Texts.{Text}
use Rattle.filetree.specs.Agreement.{InEachPair}
use Rattle.filetree.proofs.FailedPaths.{fails_then}
use Rattle.requests.specs.Reasons.{RequestReason}
use Rattle.requests.specs.RequestViews.{action_view}
use Rattle.requests.specs.Steps.{RequestStep, request_context_in}
use Rattle.modules.specs.Answers.{cause_of, is_failure}
use Rattle.modules.specs.Views.{done_view}
use Rattle.modules.proofs.StepLemmas.{stands_as}
use Rattle.module_restore.specs.Restores.{LoadStep, LoadStepLooksAt, ReplacingLooksAt, ReplacingStep}
use Rattle.module_restore.specs.Views.{loading_view}
use Rattle.module_restore.proofs.RestoreLemmas.{first_refused, load_done, load_looks, load_refused}
use Rattle.module_restore.proofs.running.run_restore.Goals as goal

pub returns-in_err-unloads-clause-over_tree : goal.returns-in_err-unloads-clause-over_tree
returns-in_err-unloads-clause-over_tree g c =
    let p = err_from_is_err_and c.from_residual-in_err-unloads.result c.from_residual-in_err-unloads.ensures.1 in
    let e = c.args.env.now in
    let first = action_view c.args.first.now.action in
    let directories : List Text = map (λ (s : String Global). string_bytes s) c.args.directories.now in
    let modules : List Text = map (λ (s : String Global). string_bytes s) c.args.modules.now in
    let agrees = g.T.Tree.agrees c.make_changes.new.tree in
    let step = rw c.in_ok-after.ensures.ok at c.in_err-unloads.ensures.over_tree in
    let First : RequestReason → Type 0 = λ r. InEachPair agrees (λ files listings. RequestStep (request_context_in c.args.limits c.args.first.now.shell files listings) e first (Err r)) in
    let Whole : RequestReason → Type 0 = λ r. InEachPair agrees (λ files listings. ReplacingStep (request_context_in c.args.limits c.args.first.now.shell files listings) e first directories modules (Err r)) in
    rw (p.1, p.2) (stands_as (cause_of c.in_err-unloads.field-0.0) _ _ First Whole (λ q. q)
    (λ r k files listings a. first_refused (request_context_in c.args.limits c.args.first.now.shell files listings) e first directories modules r (k files listings a)) step)

pub returns-in_err-loads-clause-over_tree : goal.returns-in_err-loads-clause-over_tree
returns-in_err-loads-clause-over_tree g c =
    let p = err_from_is_err_and c.from_residual-in_err-loads.result c.from_residual-in_err-loads.ensures.1 in
    let e = c.args.env.now in
    let first = action_view c.args.first.now.action in
    let before = c.search_in.new.env in
    let directories : List Text = map (λ (s : String Global). string_bytes s) c.args.directories.now in
    let modules : List Text = map (λ (s : String Global). string_bytes s) c.args.modules.now in
    let agrees = g.T.Tree.agrees c.load_modules.new.tree in
    let step = rw c.in_ok-after.ensures.ok at c.in_ok-unloads.ensures.over_tree in
    let narrows = c.in_err-loads.ensures.reads.narrows in
    let First : RequestReason → Type 0 = λ r. InEachPair agrees (λ files listings. LoadStep (request_context_in c.args.limits c.args.first.now.shell files listings) modules before (Err r)) in
    let Whole : RequestReason → Type 0 = λ r. InEachPair agrees (λ files listings. ReplacingStep (request_context_in c.args.limits c.args.first.now.shell files listings) e first directories modules (Err r)) in
    rw (p.1, p.2) (stands_as (cause_of c.in_err-loads.field-0.0) _ _ First Whole (λ q. omega (arith, q, c.in_ok-unloads.ensures.reads.counts_failures))
    (λ r k files listings a. load_refused (request_context_in c.args.limits c.args.first.now.shell files listings) e before first directories modules (done_view c.in_ok-unloads.unloads c.make_changes.new.env)
    (step files listings (narrows files listings a)) c.in_ok-search_in.ensures.made r (k files listings a)) c.in_err-loads.ensures.over_tree)

pub returns-in_err-loads-clause-failed : goal.returns-in_err-loads-clause-failed
returns-in_err-loads-clause-failed g c =
    let p = err_from_is_err_and c.from_residual-in_err-loads.result c.from_residual-in_err-loads.ensures.1 in
    let e = c.args.env.now in
    let first = action_view c.args.first.now.action in
    let before = c.search_in.new.env in
    let directories : List Text = map (λ (s : String Global). string_bytes s) c.args.directories.now in
    let modules : List Text = map (λ (s : String Global). string_bytes s) c.args.modules.now in
    let agrees = g.T.Tree.agrees c.load_modules.new.tree in
    let step = rw c.in_ok-after.ensures.ok at c.in_ok-unloads.ensures.over_tree in
    let narrows = c.in_err-loads.ensures.reads.narrows in
    let fails = is_failure c.in_err-loads.field-0.0 in
    let First : Text → Type 0 = λ at. InEachPair agrees (λ files listings. LoadStepLooksAt (request_context_in c.args.limits c.args.first.now.shell files listings) modules before at) in
    let Whole : Text → Type 0 = λ at. InEachPair agrees (λ files listings. ReplacingLooksAt (request_context_in c.args.limits c.args.first.now.shell files listings) e first directories modules at) in
    rw (p.1, p.2) (fails_then fails fails (g.T.Tree.failed c.args.tree.now) (g.T.Tree.failed c.make_changes.new.tree) (g.T.Tree.failed c.load_modules.new.tree)
    First Whole c.in_ok-unloads.ensures.failed refl
    (λ at k files listings a. load_looks (request_context_in c.args.limits c.args.first.now.shell files listings) e before first directories modules (done_view c.in_ok-unloads.unloads c.make_changes.new.env)
    (step files listings (narrows files listings a)) c.in_ok-search_in.ensures.made at (k files listings a)) c.in_err-loads.ensures.failed)

pub returns-clause-over_tree : goal.returns-clause-over_tree
returns-clause-over_tree g c =
    let e = c.args.env.now in
    let first = action_view c.args.first.now.action in
    let before = c.search_in.new.env in
    let directories : List Text = map (λ (s : String Global). string_bytes s) c.args.directories.now in
    let modules : List Text = map (λ (s : String Global). string_bytes s) c.args.modules.now in
    let step = rw c.in_ok-after.ensures.ok at c.in_ok-unloads.ensures.over_tree in
    let narrows = c.in_ok-loads.ensures.reads.narrows in
    λ files listings a.
    load_done (request_context_in c.args.limits c.args.first.now.shell files listings) e before first directories modules (done_view c.in_ok-unloads.unloads c.make_changes.new.env)
    (step files listings (narrows files listings a)) c.in_ok-search_in.ensures.made
    (loading_view c.load_modules.new.env c.in_ok-loads.loads) (c.in_ok-loads.ensures.over_tree files listings a)
