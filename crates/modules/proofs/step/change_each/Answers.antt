use Rattle.std.proofs.Common.{map, string_bytes, String, Ok, Err, refl, ap, ◌∙◌, subst}
use Rattle.std.proofs.lemmas.Result.{err_from_is_err_and}
use Rattle.std.specs.declared.alloc.Global.{Global}
use Rattle.envstate.specs.loaded_list.LoadedEntries.{entry_view}
use Rattle.filetree.specs.Relations.{Then}
use Rattle.requests.specs.Steps.{nothing_done, Each, EndsRequest}
use Rattle.modules.specs.declared.done.RequestResults.{RequestResults}
use Rattle.modules.specs.Views.{request_context_of, done_view}
use Rattle.modules.specs.Parts.{NameActionStep, EachActionLooksAt}
use Rattle.modules.proofs.ListedLemmas.{listing}
use Rattle.modules.proofs.TreeAnswers.{starved_now, refused, then_given}
use Rattle.modules.proofs.step.change_each.Goals as goal

pub act_on_each-requires : goal.act_on_each-requires
act_on_each-requires g c = ap listing c.in_ok-progress.ensures.entries ∙ c.requires

pub returns-in_err-progress-clause-done : goal.returns-in_err-progress-clause-done
returns-in_err-progress-clause-done g c =
    starved_now c.args.tree.now _ c.from_residual.result _ _ (err_from_is_err_and c.from_residual.result c.from_residual.ensures.1)

pub returns-in_err-act_on_each-clause-done : goal.returns-in_err-act_on_each-clause-done
returns-in_err-act_on_each-clause-done g c =
    let e = g.V.Vars.vars c.args.env.now in
    let names = map (λ (s : String Global). string_bytes s) c.args.names.now in
    let d = done_view c.in_ok-progress.progress.done e in
    refused _ c.in_err-act_on_each.field-0.0 (λ files listings. Each (NameActionStep c.args.name_action (request_context_of c.args.settings files listings)) names d)
    (λ files listings. EachActionLooksAt c.args.name_action (request_context_of c.args.settings files listings) names d) _ c.from_residual-in_err-act_on_each.result
    (λ files listings. Then (Each (NameActionStep c.args.name_action (request_context_of c.args.settings files listings)) names (nothing_done e)) (EndsRequest (map entry_view c.args.before.now)))
    (λ files listings. EachActionLooksAt c.args.name_action (request_context_of c.args.settings files listings) names (nothing_done e))
    (err_from_is_err_and c.from_residual-in_err-act_on_each.result c.from_residual-in_err-act_on_each.ensures.1) c.in_err-act_on_each.ensures.done
    (λ files listings r h. (Err r, subst (λ x. Each (NameActionStep c.args.name_action (request_context_of c.args.settings files listings)) names x (Err r)) (c.in_ok-progress.ensures.done e) h, refl))
    (λ files listings at h. subst (λ x. EachActionLooksAt c.args.name_action (request_context_of c.args.settings files listings) names x at) (c.in_ok-progress.ensures.done e) h)

pub returns-clause-done : goal.returns-clause-done
returns-clause-done g c =
    let e = g.V.Vars.vars c.args.env.now in
    let last = g.V.Vars.vars c.act_on_each.new.env in
    let names = map (λ (s : String Global). string_bytes s) c.args.names.now in
    let d = done_view c.in_ok-progress.progress.done e in
    let mid = done_view c.act_on_each.new.progress.done last in
    then_given (λ (u : Unit {0}). mid) tt (λ files listings. Each (NameActionStep c.args.name_action (request_context_of c.args.settings files listings)) names d)
    (λ files listings. EachActionLooksAt c.args.name_action (request_context_of c.args.settings files listings) names d) (λ (x : RequestResults). done_view x last) c.end.result
    (λ files listings. EndsRequest (map entry_view c.args.before.now) mid)
    (λ files listings. Then (Each (NameActionStep c.args.name_action (request_context_of c.args.settings files listings)) names (nothing_done e)) (EndsRequest (map entry_view c.args.before.now)))
    (λ files listings. EachActionLooksAt c.args.name_action (request_context_of c.args.settings files listings) names (nothing_done e))
    c.in_ok-act_on_each.ensures.done (λ files listings. c.end.ensures last c.in_ok-act_on_each.ensures.listed)
    (λ files listings h o k. (
      Ok mid,
      subst (λ x. Each
          (NameActionStep c.args.name_action (request_context_of c.args.settings files listings)) names x (Ok mid))
          (c.in_ok-progress.ensures.done e) h,
      k,
    ))
