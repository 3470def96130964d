use Rattle.std.proofs.Common.{true, List, map, inl, inr, refl, sym, subst, ◌∙◌, IfOk}
use Rattle.std.proofs.lemmas.Result.{IfOk-weaker}
use Rattle.envstate.specs.loaded_list.LoadedEntries.{entry_view}
use Rattle.envvars.specs.Texts.{Text}
use Rattle.requests.specs.RequestViews.{action_view}
use Rattle.module_explain.specs.Advised.{ForConflict, Instead, IsLoaded, names_or_none, names_to_load}
use Rattle.module_explain.proofs.advice.for_conflict.Goals as goal

pub returns-then-not-is_loaded-clause-fits : goal.returns-then-not-is_loaded-clause-fits
returns-then-not-is_loaded-clause-fits g c =
    inl ((map entry_view c.in_ok-entries.entries.items, c.in_ok-entries.ensures, sym (rw c.as_slice.ensures.value at c.is_loaded.ensures) ∙ c.if-not-is_loaded.true), refl)

pub returns-clause-fits : goal.returns-clause-fits
returns-clause-fits g c =
    let now = g.T.Tree.agrees c.instead.new.tree in
    let limits = c.args.refused.limits in
    let shell = c.args.refused.request.now.shell in
    let e = c.args.refused.env.now in
    let other = c.args.other.now in
    let names = names_or_none (names_to_load (action_view c.args.refused.request.now.action)) in
    let is : IsLoaded now limits shell e other true =
    (map entry_view c.in_ok-entries.entries.items, c.in_ok-entries.ensures, sym (rw c.as_slice.ensures.value at c.is_loaded.ensures) ∙ c.if-not-is_loaded.false) in
    IfOk-weaker c.instead.result (Instead now limits shell e other names) (ForConflict now limits shell e other names) (λ o h. inr (is, h))
    (subst (λ (l : List Text). IfOk c.instead.result (Instead now limits shell e other l)) c.names_to_load-names.ensures c.instead.ensures.fits)
