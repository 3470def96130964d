use Rattle.std.proofs.Common.{◌≡◌, false, List, map, string_bytes, String, Ok, Err, refl, sym, ap, ◌∙◌, subst}
use Rattle.std.proofs.lemmas.Result.{err_from_is_err_and}
use Rattle.std.specs.declared.alloc.Global.{Global}
use Rattle.envstate.specs.loaded_list.Loaded.{Entry}
use Rattle.filetree.specs.Relations.{Then}
use Rattle.requests.specs.Steps.{nothing_done, Each, EndsRequest}
use Rattle.modules.specs.declared.done.RequestResults.{RequestResults}
use Rattle.modules.specs.Views.{request_context_of, done_view}
use Rattle.modules.specs.Parts.{NameActionStep, EachActionLooksAt, entries_view, may_lose}
use Rattle.modules.proofs.ListedLemmas.{listing}
use Rattle.modules.proofs.NeedLemmas.{ends_freely}
use Rattle.modules.proofs.TreeAnswers.{starved_now, refused, then_answers}
use Rattle.modules.proofs.step.change_freely.Goals as goal

pub act_on_each-requires : goal.act_on_each-requires
act_on_each-requires g c = ap listing c.in_ok-progress.ensures.entries ∙ c.requires.listed

pub returns-in_err-progress-clause-done : goal.returns-in_err-progress-clause-done
returns-in_err-progress-clause-done g c =
    starved_now c.args.tree.now _ c.from_residual.result _ _ (err_from_is_err_and c.from_residual.result c.from_residual.ensures.1)

pub returns-in_err-act_on_each-clause-done : goal.returns-in_err-act_on_each-clause-done
returns-in_err-act_on_each-clause-done g c =
    let e = g.V.Vars.vars c.args.env.now in
    let names = map (λ (s : String Global). string_bytes s) c.args.names.now in
    let d = done_view c.in_ok-progress.progress.done e in
    refused _ c.in_err-act_on_each.field-0.0 (λ files listings. Each (NameActionStep c.args.name_action (request_context_of c.args.settings files listings)) names d)
    (λ files listings. EachActionLooksAt c.args.name_action (request_context_of c.args.settings files listings) names d) _ c.from_residual-in_err-act_on_each.result
    (λ files listings. Then (Each (NameActionStep c.args.name_action (request_context_of c.args.settings files listings)) names (nothing_done e)) (EndsRequest (entries_view c.args.before)))
    (λ files listings. EachActionLooksAt c.args.name_action (request_context_of c.args.settings files listings) names (nothing_done e))
    (err_from_is_err_and c.from_residual-in_err-act_on_each.result c.from_residual-in_err-act_on_each.ensures.1) c.in_err-act_on_each.ensures.done
    (λ files listings r h. (Err r, subst (λ x. Each (NameActionStep c.args.name_action (request_context_of c.args.settings files listings)) names x (Err r)) (c.in_ok-progress.ensures.done e) h, refl))
    (λ files listings at h. subst (λ x. EachActionLooksAt c.args.name_action (request_context_of c.args.settings files listings) names x at) (c.in_ok-progress.ensures.done e) h)

pub returns-clause-done : goal.returns-clause-done
returns-clause-done g c =
    let e = g.V.Vars.vars c.args.env.now in
    let last = g.V.Vars.vars c.act_on_each.new.env in
    let names = map (λ (s : String Global). string_bytes s) c.args.names.now in
    let xs = entries_view c.args.before in
    let d = done_view c.in_ok-progress.progress.done e in
    let mid = done_view c.act_on_each.new.progress.done last in
    let free : may_lose c.args.name_action (entries_view c.in_ok-progress.progress.list.entries) ≡ false =
    subst (λ (ys : List Entry). may_lose c.args.name_action ys ≡ false) (sym c.in_ok-progress.ensures.entries) c.requires.free in
    then_answers (λ (u : Unit {0}). mid) tt (λ files listings. Each (NameActionStep c.args.name_action (request_context_of c.args.settings files listings)) names d)
    (λ files listings. EachActionLooksAt c.args.name_action (request_context_of c.args.settings files listings) names d) (λ (x : RequestResults). done_view x last) c.act_on_each.new.progress.done
    (λ files listings. Then (Each (NameActionStep c.args.name_action (request_context_of c.args.settings files listings)) names (nothing_done e)) (EndsRequest xs))
    (λ files listings. EachActionLooksAt c.args.name_action (request_context_of c.args.settings files listings) names (nothing_done e))
    c.in_ok-act_on_each.ensures.done
    (λ files listings h. (
      Ok mid,
      subst (λ x. Each
          (NameActionStep c.args.name_action (request_context_of c.args.settings files listings)) names x (Ok mid))
          (c.in_ok-progress.ensures.done e) h,
      ends_freely c.args.name_action xs (entries_view c.act_on_each.new.progress.list.entries) mid
          c.in_ok-act_on_each.ensures.listed (c.in_ok-act_on_each.ensures.free free),
    ))
