use Rattle.std.proofs.Common.{true, Some, Ok, Err, refl, inl, inr}
use Rattle.std.proofs.lemmas.Result.{err_from_is_err_and}
use Rattle.requests.specs.Steps.{LoadsName, UnloadsName, Switches}
use Rattle.requests.specs.Looked.{LoadLooksAt, UnloadLooksAt, SwitchLooksAt}
use Rattle.modules.specs.Views.{request_context_of, done_view}
use Rattle.modules.proofs.TreeAnswers.{refused, then_another}
use Rattle.modules.proofs.step.switch_names.Goals as goal

pub unload_name-requires : goal.unload_name-requires
unload_name-requires g c = c.requires

pub load_name-requires : goal.load_name-requires
load_name-requires g c = c.in_ok-unload_name.ensures.listed

pub returns-in_err-unload_name-clause-done : goal.returns-in_err-unload_name-clause-done
returns-in_err-unload_name-clause-done g c =
    let d = done_view c.args.progress.now.done (g.V.Vars.vars c.args.env.now) in
    refused _ c.in_err-unload_name.field-0.0 (λ files listings. UnloadsName
    (request_context_of c.args.settings files listings) true c.args.old.now d)
    (λ files listings. UnloadLooksAt c.args.old.now d)
    _ c.from_residual.result (λ files listings. Switches (request_context_of c.args.settings files listings) (Some c.args.old.now) c.args.new.now d)
    (λ files listings. SwitchLooksAt (request_context_of c.args.settings files listings) c.args.old.now c.args.new.now d)
    (err_from_is_err_and c.from_residual.result c.from_residual.ensures.1) c.in_err-unload_name.ensures.unloaded
    (λ files listings r h. (Err r, h, refl)) (λ files listings at h. inl h)

pub returns-clause-done : goal.returns-clause-done
returns-clause-done g c =
    let d = done_view c.args.progress.now.done (g.V.Vars.vars c.args.env.now) in
    let mid = done_view c.unload_name.new.progress.done (g.V.Vars.vars c.unload_name.new.env) in
    then_another (λ (u : Unit {0}). mid) tt (λ files listings. UnloadsName (request_context_of c.args.settings files listings) true c.args.old.now d) (λ files listings. UnloadLooksAt c.args.old.now d)
    (λ (u : Unit {0}). done_view c.load_name.new.progress.done (g.V.Vars.vars c.load_name.new.env)) c.load_name.result
    (λ files listings. LoadsName (request_context_of c.args.settings files listings) true c.args.new.now mid)
    (λ files listings. Switches (request_context_of c.args.settings files listings) (Some c.args.old.now) c.args.new.now d)
    (λ files listings. LoadLooksAt (request_context_of c.args.settings files listings) c.args.new.now mid)
    (λ files listings. SwitchLooksAt (request_context_of c.args.settings files listings) c.args.old.now c.args.new.now d)
    c.in_ok-unload_name.ensures.unloaded c.load_name.ensures.loaded
    (λ files listings h o k. (Ok mid, h, k)) (λ files listings h at k. inr (mid, h, k))

pub returns-clause-listed : goal.returns-clause-listed
returns-clause-listed g c = c.load_name.ensures.listed
