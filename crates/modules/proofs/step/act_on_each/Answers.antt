use Rattle.std.proofs.Common.{◌≡◌, List, [], drop, map, string_bytes, String, Ok, Err, ◌∙◌, sym, subst, refl}
use Rattle.std.proofs.lemmas.Result.{err_from_is_err_and}
use Rattle.std.proofs.Math.ListN.{drop_of_length-le}
use Rattle.std.specs.declared.alloc.Global.{Global}
use Rattle.envvars.specs.Texts.{Text}
use Rattle.requests.specs.Steps.{Each}
use Rattle.modules.specs.Views.{request_context_of, done_view}
use Rattle.modules.specs.Parts.{NameActionStep, NameActionLooksAt}
use Rattle.modules.proofs.EachLemmas.{each_refused, each_on, each_looks_here, each_looks_on}
use Rattle.modules.proofs.TreeAnswers.{leads_on, leads_refused, leads_last}
use Rattle.modules.proofs.step.act_on_each.Goals as goal

pub act_on_name-requires : goal.act_on_name-requires
act_on_name-requires g c = c.loop-name.invariant.listed

pub loop-name-preserved : goal.loop-name-preserved
loop-name-preserved g c =
    let d = done_view c.loop-name.progress.done (g.V.Vars.vars c.loop-name.env) in
    let mid = done_view c.act_on_name.new.progress.done (g.V.Vars.vars c.act_on_name.new.env) in
    record {
      leads = leads_on c.loop-name.invariant.leads (λ (u : Unit {0}). mid) tt
          (λ files listings. NameActionStep c.args.name_action (request_context_of c.args.settings files listings)
          c.as_str.result.now d)
          (λ files listings. NameActionLooksAt c.args.name_action (request_context_of c.args.settings files listings) c.as_str.result.now d) _ _ c.in_ok-act_on_name.ensures.done
          (λ files listings h o k. let D = NameActionStep c.args.name_action (request_context_of c.args.settings files listings) in
          each_on (λ (s : String Global). string_bytes s) D c.args.names.now c.loop-name.name-index c.name-item.result c.loop-name-test.true c.name-item.is d mid
          (subst (λ (n : Text). D n d (Ok mid)) c.as_str.ensures.value h) o k)
          (λ files listings h at k. let D = NameActionStep c.args.name_action (request_context_of c.args.settings files listings) in
          each_looks_on (λ (s : String Global). string_bytes s) D c.args.names.now c.loop-name.name-index
          c.name-item.result c.loop-name-test.true c.name-item.is d
          (NameActionLooksAt c.args.name_action (request_context_of c.args.settings files listings)) at mid
          (subst (λ (n : Text). D n d (Ok mid)) c.as_str.ensures.value h) k);
      listed = c.in_ok-act_on_name.ensures.listed;
      free = λ h. c.in_ok-act_on_name.ensures.free (c.loop-name.invariant.free h);
      base = c.act_on_name.ensures.base ∙ c.loop-name.invariant.base;
    }

pub returns-in_err-act_on_name-clause-done : goal.returns-in_err-act_on_name-clause-done
returns-in_err-act_on_name-clause-done g c =
    let d = done_view c.loop-name.progress.done (g.V.Vars.vars c.loop-name.env) in
    leads_refused c.loop-name.invariant.leads _ c.in_err-act_on_name.field-0.0
    (λ files listings. NameActionStep c.args.name_action (request_context_of c.args.settings files listings)
    c.as_str.result.now d)
    (λ files listings. NameActionLooksAt c.args.name_action (request_context_of c.args.settings files listings) c.as_str.result.now d) _ c.from_residual.result
    (err_from_is_err_and c.from_residual.result c.from_residual.ensures.1) c.in_err-act_on_name.ensures.done
    (λ files listings r h. let D = NameActionStep c.args.name_action (request_context_of c.args.settings files listings) in
    each_refused (λ (s : String Global). string_bytes s) D c.args.names.now c.loop-name.name-index c.name-item.result
    c.loop-name-test.true c.name-item.is d r (subst (λ (n : Text). D n d (Err r)) c.as_str.ensures.value h))
    (λ files listings at h. let L = NameActionLooksAt c.args.name_action (request_context_of c.args.settings files listings) in
    each_looks_here (λ (s : String Global). string_bytes s)
    (NameActionStep c.args.name_action (request_context_of c.args.settings files listings)) c.args.names.now
    c.loop-name.name-index c.name-item.result c.loop-name-test.true c.name-item.is d L at
    (subst (λ (n : Text). L n d at) c.as_str.ensures.value h))

pub returns-clause-done : goal.returns-clause-done
returns-clause-done g c =
    let d = done_view c.loop-name.progress.done (g.V.Vars.vars c.loop-name.env) in
    leads_last c.loop-name.invariant.leads (λ (u : Unit {0}). d) tt (λ files listings.
    let D = NameActionStep c.args.name_action (request_context_of c.args.settings files listings) in
    let left : drop c.loop-name.name-index c.args.names.now ≡ [] = drop_of_length-le c.args.names.now c.loop-name-test.false in
    let Rest : List (String Global) → Type 0 = λ names. Each D (map (λ (s : String Global). string_bytes s) names) d (Ok d) in
    subst Rest (sym left) refl)

pub returns-clause-listed : goal.returns-clause-listed
returns-clause-listed g c = c.loop-name.invariant.listed

pub returns-clause-free : goal.returns-clause-free
returns-clause-free g c = c.loop-name.invariant.free
