use Rattle.std.proofs.Common.{◌≡◌, false, List, map, reverse, string_bytes, String, Ok, Err, refl, ap, ◌∙◌, subst}
use Rattle.std.proofs.lemmas.Result.{err_from_is_err_and}
use Rattle.std.specs.declared.alloc.Global.{Global}
use Rattle.envvars.specs.Texts.{Text}
use Rattle.envstate.specs.loaded_list.Loaded.{names_of}
use Rattle.envstate.specs.loaded_list.LoadedEntries.{entry_view}
use Rattle.envstate.specs.declared.loaded_list.entry.Loaded.{Loaded}
use Rattle.filetree.specs.Relations.{Then}
use Rattle.requests.specs.Requests as actions
use Rattle.requests.specs.Steps.{nothing_done, entries_of, Each, EndsRequest, RequestStep, UnloadsName}
use Rattle.requests.specs.Looked.{UnloadLooksAt, EachLooksAt, PurgeLooksAt}
use Rattle.modules.specs.declared.done.RequestResults.{RequestResults}
use Rattle.modules.specs.declared.step.NameAction.TheVariants.{Unload}
use Rattle.modules.specs.Views.{request_context_of, done_view}
use Rattle.modules.specs.Parts.{NameActionStep, EachActionLooksAt}
use Rattle.modules.proofs.TreeAnswers.{starved_now, refused_now, widened}
use Rattle.modules.proofs.step.purge.Goals as goal

pub change_loaded-requires : goal.change_loaded-requires
change_loaded-requires g c = c.in_ok-before.ensures.given

pub returns-in_err-before-clause-done : goal.returns-in_err-before-clause-done
returns-in_err-before-clause-done g c =
    let e = g.V.Vars.vars c.args.env.now in
    refused_now c.args.tree.now _ c.from_residual.result c.in_err-before.field-0.0 (λ r. Err r ≡ entries_of e)
    (λ files listings. RequestStep (request_context_of c.args.settings files listings) e actions.purge) _
    (err_from_is_err_and c.from_residual.result c.from_residual.ensures.1) c.in_err-before.ensures.given
    (λ files listings r h. (Err r, h, refl))

pub returns-in_err-names-clause-done : goal.returns-in_err-names-clause-done
returns-in_err-names-clause-done g c =
    starved_now c.args.tree.now _ c.from_residual-in_err-names.result _ _ (err_from_is_err_and c.from_residual-in_err-names.result c.from_residual-in_err-names.ensures.1)

pub returns-clause-done : goal.returns-clause-done
returns-clause-done g c =
    let e = g.V.Vars.vars c.args.env.now in
    let xs = map entry_view c.in_ok-before.before.items in
    let names = map (λ (s : String Global). string_bytes s) c.as_slice-2.result.now in
    let back : names ≡ reverse (names_of xs) =
    ap (map (λ (s : String Global). string_bytes s)) c.as_slice-2.ensures.value
    ∙ (c.in_ok-names.ensures ∙ ap (λ (es : List Loaded). reverse (names_of (map entry_view es))) c.as_slice.ensures.value) in
    widened (λ (x : RequestResults). done_view x (g.V.Vars.vars c.change_loaded.new.env)) c.change_loaded.result
    (λ files listings. Then (Each (NameActionStep Unload (request_context_of c.args.settings files listings)) names (nothing_done e)) (EndsRequest xs))
    (λ files listings. RequestStep (request_context_of c.args.settings files listings) e actions.purge)
    (λ files listings. EachActionLooksAt Unload (request_context_of c.args.settings files listings) names (nothing_done e))
    (λ files listings. PurgeLooksAt (request_context_of c.args.settings files listings) e) c.change_loaded.ensures.done
    (λ files listings o h. (Ok xs, c.in_ok-before.ensures.given, subst (λ (ns : List Text). Then (Each (UnloadsName (request_context_of c.args.settings files listings) false) ns (nothing_done e)) (EndsRequest xs) o) back h))
    (λ files listings at h. record {
      entries = xs;
      read = c.in_ok-before.ensures.given;
      unloading = subst (λ (ns : List Text). EachLooksAt (UnloadsName (request_context_of c.args.settings files listings) false) UnloadLooksAt ns (nothing_done e) at) back h;
    })
