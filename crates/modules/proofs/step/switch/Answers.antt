use Rattle.std.proofs.Common.{◌≡◌, List, map, Some, Ok, Err, refl, ap, ◌∙◌}
use Rattle.std.proofs.lemmas.Result.{err_from_is_err_and}
use Rattle.std.specs.Option.{option_map}
use Rattle.envstate.specs.loaded_list.LoadedEntries.{entry_view}
use Rattle.envstate.specs.declared.loaded_list.entry.Loaded.{Loaded}
use Rattle.requests.specs.Requests as actions
use Rattle.requests.specs.Looked.{SwitchLooksAt}
use Rattle.requests.specs.Steps.{nothing_done, entries_of, EndsRequest, RequestStep, Switches, old_name}
use Rattle.modules.specs.declared.done.RequestResults.{RequestResults}
use Rattle.modules.specs.Views.{request_context_of, done_view}
use Rattle.modules.proofs.ListedLemmas.{listing}
use Rattle.modules.proofs.SwitchLemmas.{switches_old, switch_looks_old}
use Rattle.modules.proofs.TreeAnswers.{starved_now, refused_now, refused, then_given}
use Rattle.modules.proofs.step.switch.Goals as goal

pub switch_names-requires : goal.switch_names-requires
switch_names-requires g c = ap listing (c.in_ok-progress.ensures.entries ∙ ap (map entry_view) c.as_slice.ensures.value) ∙ c.in_ok-before.ensures.given

pub returns-in_err-before-clause-done : goal.returns-in_err-before-clause-done
returns-in_err-before-clause-done g c =
    let e = g.V.Vars.vars c.args.env.now in
    refused_now c.args.tree.now _ c.from_residual.result c.in_err-before.field-0.0 (λ r. Err r ≡ entries_of e)
    (λ files listings. RequestStep (request_context_of c.args.settings files listings) e (actions.switch (option_map (λ x. x.now) c.args.old) c.args.new.now)) _
    (err_from_is_err_and c.from_residual.result c.from_residual.ensures.1) c.in_err-before.ensures.given
    (λ files listings r h. (Err r, h, refl))

pub returns-in_err-progress-clause-done : goal.returns-in_err-progress-clause-done
returns-in_err-progress-clause-done g c =
    starved_now c.args.tree.now _ c.from_residual-in_err-progress.result _ _ (err_from_is_err_and c.from_residual-in_err-progress.result c.from_residual-in_err-progress.ensures.1)

pub returns-in_err-switch_names-clause-done : goal.returns-in_err-switch_names-clause-done
returns-in_err-switch_names-clause-done g c =
    let e = g.V.Vars.vars c.args.env.now in
    let d = done_view c.in_ok-progress.progress.done e in
    let asked = option_map (λ x. x.now) c.args.old in
    let old = c.old_name-old.result.now in
    let new = c.args.new.now in
    let xs = map entry_view c.in_ok-before.before.items in
    refused _ c.in_err-switch_names.field-0.0 (λ files listings. Switches (request_context_of c.args.settings files listings) (Some old) new d)
    (λ files listings. SwitchLooksAt (request_context_of c.args.settings files listings) old new d) _ c.from_residual-in_err-switch_names.result
    (λ files listings. RequestStep (request_context_of c.args.settings files listings) e (actions.switch asked new))
    (λ files listings. SwitchLooksAt (request_context_of c.args.settings files listings) (old_name asked new) new (nothing_done e))
    (err_from_is_err_and c.from_residual-in_err-switch_names.result c.from_residual-in_err-switch_names.ensures.1) c.in_err-switch_names.ensures.done
    (λ files listings r h. (
      Ok xs,
      c.in_ok-before.ensures.given,
      (
        Err r,
        switches_old (request_context_of c.args.settings files listings) asked old new c.old_name-old.ensures d
            (nothing_done e) (c.in_ok-progress.ensures.done e) (Err r) h,
        refl,
      ),
    ))
    (λ files listings at h. switch_looks_old (request_context_of c.args.settings files listings) asked old new c.old_name-old.ensures d (nothing_done e) (c.in_ok-progress.ensures.done e) at h)

pub returns-clause-done : goal.returns-clause-done
returns-clause-done g c =
    let e = g.V.Vars.vars c.args.env.now in
    let last = g.V.Vars.vars c.switch_names.new.env in
    let d = done_view c.in_ok-progress.progress.done e in
    let mid = done_view c.switch_names.new.progress.done last in
    let asked = option_map (λ x. x.now) c.args.old in
    let old = c.old_name-old.result.now in
    let new = c.args.new.now in
    let xs = map entry_view c.as_slice-2.result.now in
    let read : Ok xs ≡ entries_of e = ap (λ (es : List Loaded). listing (map entry_view es)) c.as_slice-2.ensures.value ∙ c.in_ok-before.ensures.given in
    then_given (λ (u : Unit {0}). mid) tt (λ files listings. Switches (request_context_of c.args.settings files listings) (Some old) new d)
    (λ files listings. SwitchLooksAt (request_context_of c.args.settings files listings) old new d) (λ (x : RequestResults). done_view x last) c.end.result
    (λ files listings. EndsRequest xs mid)
    (λ files listings. RequestStep (request_context_of c.args.settings files listings) e (actions.switch asked new))
    (λ files listings. SwitchLooksAt (request_context_of c.args.settings files listings) (old_name asked new) new (nothing_done e))
    c.in_ok-switch_names.ensures.done (λ files listings. c.end.ensures last c.in_ok-switch_names.ensures.listed)
    (λ files listings h o k. (
      Ok xs,
      read,
      (
        Ok mid,
        switches_old (request_context_of c.args.settings files listings)
            asked old new c.old_name-old.ensures d (nothing_done e) (c.in_ok-progress.ensures.done e) (Ok mid) h,
        k,
      ),
    ))
