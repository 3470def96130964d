use Rattle.std.proofs.Common.{◌≡◌, map, string_bytes, String, Ok, Err, refl}
use Rattle.std.proofs.lemmas.Result.{err_from_is_err_and}
use Rattle.std.specs.declared.alloc.Global.{Global}
use Rattle.envstate.specs.loaded_list.LoadedEntries.{entry_view}
use Rattle.filetree.specs.Relations.{Then}
use Rattle.requests.specs.Steps.{nothing_done, entries_of, Each, EndsRequest, NeedsNames, ChangesLoaded}
use Rattle.modules.specs.declared.done.RequestResults.{RequestResults}
use Rattle.modules.specs.Views.{request_context_of, done_view}
use Rattle.modules.specs.Parts.{NameActionStep, EachActionLooksAt}
use Rattle.modules.proofs.EachLemmas.{named_none, named_some}
use Rattle.modules.proofs.TreeAnswers.{same_tree, refused_now, widened}
use Rattle.modules.proofs.step.change_names.Goals as goal

pub change_loaded-requires : goal.change_loaded-requires
change_loaded-requires g c = c.in_ok-before.ensures.given

pub returns-then-is_empty-clause-done : goal.returns-then-is_empty-clause-done
returns-then-is_empty-clause-done g c = record {
  reads = same_tree c.args.tree.now;
  over_tree = λ files listings a. named_none c.args.names.now c.is_empty.result c.is_empty.ensures c.if-is_empty.true _;
  failed_at = refl;
}

pub returns-in_err-before-clause-done : goal.returns-in_err-before-clause-done
returns-in_err-before-clause-done g c =
    let e = g.V.Vars.vars c.args.env.now in
    let names = map (λ (s : String Global). string_bytes s) c.args.names.now in
    refused_now c.args.tree.now _ c.from_residual.result c.in_err-before.field-0.0 (λ r. Err r ≡ entries_of e)
    (λ files listings. NeedsNames names (ChangesLoaded e (λ before. Each (NameActionStep c.args.name_action (request_context_of c.args.settings files listings)) names))) _
    (err_from_is_err_and c.from_residual.result c.from_residual.ensures.1) c.in_err-before.ensures.given
    (λ files listings r h. named_some c.args.names.now c.is_empty.result c.is_empty.ensures c.if-is_empty.false
    (ChangesLoaded e (λ before. Each (NameActionStep c.args.name_action
    (request_context_of c.args.settings files listings)) names)) (Err r) (Err r, h, refl))

pub returns-clause-done : goal.returns-clause-done
returns-clause-done g c =
    let e = g.V.Vars.vars c.args.env.now in
    let names = map (λ (s : String Global). string_bytes s) c.args.names.now in
    let xs = map entry_view c.in_ok-before.before.items in
    widened (λ (x : RequestResults). done_view x (g.V.Vars.vars c.change_loaded.new.env)) c.change_loaded.result
    (λ files listings. Then (Each (NameActionStep c.args.name_action (request_context_of c.args.settings files listings)) names (nothing_done e)) (EndsRequest xs))
    (λ files listings. NeedsNames names (ChangesLoaded e (λ before. Each (NameActionStep c.args.name_action (request_context_of c.args.settings files listings)) names)))
    (λ files listings. EachActionLooksAt c.args.name_action (request_context_of c.args.settings files listings) names (nothing_done e))
    (λ files listings. EachActionLooksAt c.args.name_action (request_context_of c.args.settings files listings) names (nothing_done e)) c.change_loaded.ensures.done
    (λ files listings o h. named_some c.args.names.now c.is_empty.result c.is_empty.ensures c.if-is_empty.false
    (ChangesLoaded e (λ before. Each (NameActionStep c.args.name_action
    (request_context_of c.args.settings files listings)) names)) o (Ok xs, c.in_ok-before.ensures.given, h))
    (λ files listings at h. h)
