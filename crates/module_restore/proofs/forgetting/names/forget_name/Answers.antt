use Rattle.std.proofs.Common.{◌≡◌, Bor, List, Some, map, ap, sym, subst, ◌∙◌}
use Rattle.std.proofs.lemmas.Result.{err_from_is_err_and}
use Rattle.std.specs.Option.{option_map}
use Rattle.envvars.specs.Texts.{Text}
use Rattle.envstate.specs.loaded_list.Loaded.{Entry}
use Rattle.envstate.specs.loaded_list.LoadedEntries.{entry_view}
use Rattle.envstate.specs.declared.loaded_list.entry.Loaded.{Loaded}
use Rattle.requests.specs.Steps.{last_meant}
use Rattle.module_restore.specs.forgetting.Forgets.{IsForgotten, can_go}
use Rattle.module_restore.specs.forgetting.Looked.{IsRecorded}
use Rattle.module_restore.proofs.forgetting.ForgetLemmas.{goes, recorded_before, recorded_here, unread_file}
use Rattle.module_restore.proofs.forgetting.names.forget_name.Goals as goal

pub returns-in_err-can_go-clause-failed : goal.returns-in_err-can_go-clause-failed
returns-in_err-can_go-clause-failed g c =
    let p = err_from_is_err_and c.from_residual-in_err-can_go.result c.from_residual-in_err-can_go.ensures.1 in
    let e = c.args.env.now in
    let entries : List Entry = map entry_view c.in_ok-entries.entries.items in
    let x : Entry = entry_view c.in-Some.entry.now in
    let meant : last_meant c.args.name.now entries ≡ Some x =
    ap (λ (l : List Loaded). last_meant c.args.name.now (map entry_view l)) (sym c.as_slice.ensures.value) ∙ sym c.last_meant.ensures ∙ ap (option_map (λ (y : Bor Loaded). entry_view y.now)) c.in-Some.is in
    let here : IsRecorded e c.as_str-path.result.now = subst (IsRecorded e) (sym c.as_str-path.ensures.value) (recorded_here c.args.name.now e entries x c.in_ok-entries.ensures meant) in
    rw (p.1, p.2) (unread_file c.in_err-can_go.field-0.0 _ _ c.as_str-path.result.now (IsRecorded e) here c.in_err-can_go.ensures.failed)

pub returns-clause-forgotten : goal.returns-clause-forgotten
returns-clause-forgotten g c =
    let e = c.args.env.now in
    let entries : List Entry = map entry_view c.in_ok-entries.entries.items in
    let x : Entry = entry_view c.in-Some.entry.now in
    let after = c.forget_module.new.env in
    let meant : last_meant c.args.name.now entries ≡ Some x =
    ap (λ (l : List Loaded). last_meant c.args.name.now (map entry_view l)) (sym c.as_slice.ensures.value) ∙ sym c.last_meant.ensures ∙ ap (option_map (λ (y : Bor Loaded). entry_view y.now)) c.in-Some.is in
    let forgotten : IsForgotten x.name e after = subst (λ (o : Text). IsForgotten o e after) c.as_str-owner.ensures.value c.in_ok-forget_module.ensures.forgotten in
    λ names files listings a.
    let gone = subst (λ (path : Text). can_go c.args.settings_stay files path ≡ c.in_ok-can_go.field-0) c.as_str-path.ensures.value (c.in_ok-can_go.ensures.can files listings a) ∙ c.if-not-branch.false in
    rw (c.in_ok-from_str-3.ensures.ok, c.as_str-owner.ensures.value) (goes c.args.settings_stay files c.args.name.now e names entries c.in_ok-entries.ensures x after meant gone forgotten)

pub returns-clause-recorded : goal.returns-clause-recorded
returns-clause-recorded g c =
    let entries : List Entry = map entry_view c.in_ok-entries.entries.items in
    recorded_before c.as_str-owner.result.now c.args.env.now c.forget_module.new.env entries c.in_ok-entries.ensures c.in_ok-forget_module.ensures.forgotten
