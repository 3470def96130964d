use Rattle.std.proofs.Common.{◌≡◌, map, string_bytes, String, Ok, Err, subst, refl, ap, ◌∙◌}
use Rattle.std.proofs.lemmas.Result.{err_from_is_err_and}
use Rattle.std.specs.declared.alloc.Global.{Global}
use Rattle.requests.specs.Steps.{entries_of, Each, NeedsNames, ShowsName, ShowsNames, nothing_done}
use Rattle.modules.specs.declared.step.NameAction.TheVariants.{ReportOn}
use Rattle.modules.specs.declared.done.RequestResults.{RequestResults}
use Rattle.modules.specs.Views.{request_context_of, done_view}
use Rattle.modules.specs.Parts.{report_mode, report_text, EachActionLooksAt}
use Rattle.modules.proofs.EachLemmas.{named_none, named_some, shows_some}
use Rattle.modules.proofs.ListedLemmas.{listing}
use Rattle.modules.proofs.TreeAnswers.{same_tree, refused_now, starved_now, refused, then_answers}
use Rattle.modules.proofs.step.report_names.Goals as goal

pub act_on_each-requires : goal.act_on_each-requires
act_on_each-requires g c = ap listing c.in_ok-progress.ensures.entries ∙ c.in_ok-entries.ensures.given

pub returns-then-is_empty-clause-done : goal.returns-then-is_empty-clause-done
returns-then-is_empty-clause-done g c = record {
  reads = same_tree c.args.tree.now;
  over_tree = λ files listings a. named_none c.args.names.now c.is_empty.result c.is_empty.ensures c.if-is_empty.true _;
  failed_at = refl;
}

pub returns-in_err-entries-clause-done : goal.returns-in_err-entries-clause-done
returns-in_err-entries-clause-done g c =
    let e = g.V.Vars.vars c.args.env.now in
    let kind = c.args.report_kind in
    let names = map (λ (s : String Global). string_bytes s) c.args.names.now in
    refused_now c.args.tree.now _ c.from_residual.result c.in_err-entries.field-0.0 (λ r. Err r ≡ entries_of e)
    (λ files listings. NeedsNames names (ShowsNames (request_context_of c.args.settings files listings) (report_mode kind) (report_text kind) e names)) _
    (err_from_is_err_and c.from_residual.result c.from_residual.ensures.1) c.in_err-entries.ensures.given
    (λ files listings r h. named_some c.args.names.now c.is_empty.result c.is_empty.ensures c.if-is_empty.false
    (ShowsNames (request_context_of c.args.settings files listings) (report_mode kind) (report_text kind) e names)
    (Err r) (Err r, h, refl))

pub returns-in_err-progress-clause-done : goal.returns-in_err-progress-clause-done
returns-in_err-progress-clause-done g c =
    starved_now c.args.tree.now _ c.from_residual-in_err-progress.result _ _
    (err_from_is_err_and c.from_residual-in_err-progress.result c.from_residual-in_err-progress.ensures.1)

pub returns-in_err-act_on_each-clause-done : goal.returns-in_err-act_on_each-clause-done
returns-in_err-act_on_each-clause-done g c =
    let e = g.V.Vars.vars c.args.env.now in
    let kind = c.args.report_kind in
    let names = map (λ (s : String Global). string_bytes s) c.args.names.now in
    let d = done_view c.in_ok-progress.progress.done e in
    refused _ c.in_err-act_on_each.field-0.0 (λ files listings. Each (ShowsName (request_context_of c.args.settings files listings) (report_mode kind) (report_text kind)) names d)
    (λ files listings. EachActionLooksAt (ReportOn kind) (request_context_of c.args.settings files listings) names d) _ c.from_residual-in_err-act_on_each.result
    (λ files listings. NeedsNames names (ShowsNames (request_context_of c.args.settings files listings) (report_mode kind) (report_text kind) e names))
    (λ files listings. EachActionLooksAt (ReportOn kind) (request_context_of c.args.settings files listings) names (nothing_done e))
    (err_from_is_err_and c.from_residual-in_err-act_on_each.result c.from_residual-in_err-act_on_each.ensures.1) c.in_err-act_on_each.ensures.done
    (λ files listings r h. shows_some (request_context_of c.args.settings files listings) (report_mode kind)
    (report_text kind) e c.args.names.now c.is_empty.result c.is_empty.ensures c.if-is_empty.false (Err r)
    (subst (λ x. Each (ShowsName (request_context_of c.args.settings files listings) (report_mode kind) (report_text kind)) names x (Err r)) (c.in_ok-progress.ensures.done e) h))
    (λ files listings at h. subst (λ x. EachActionLooksAt (ReportOn kind) (request_context_of c.args.settings files listings) names x at) (c.in_ok-progress.ensures.done e) h)

pub returns-clause-done : goal.returns-clause-done
returns-clause-done g c =
    let e = g.V.Vars.vars c.args.env.now in
    let kind = c.args.report_kind in
    let last = g.V.Vars.vars c.act_on_each.new.env in
    let names = map (λ (s : String Global). string_bytes s) c.args.names.now in
    let d = done_view c.in_ok-progress.progress.done e in
    let mid = done_view c.act_on_each.new.progress.done last in
    then_answers (λ (u : Unit {0}). mid) tt (λ files listings. Each (ShowsName (request_context_of c.args.settings files listings) (report_mode kind) (report_text kind)) names d)
    (λ files listings. EachActionLooksAt (ReportOn kind) (request_context_of c.args.settings files listings) names d) (λ (x : RequestResults). done_view x last) c.act_on_each.new.progress.done
    (λ files listings. NeedsNames names (ShowsNames (request_context_of c.args.settings files listings) (report_mode kind) (report_text kind) e names))
    (λ files listings. EachActionLooksAt (ReportOn kind) (request_context_of c.args.settings files listings) names (nothing_done e))
    c.in_ok-act_on_each.ensures.done
    (λ files listings h. shows_some (request_context_of c.args.settings files listings) (report_mode kind)
    (report_text kind) e c.args.names.now c.is_empty.result c.is_empty.ensures c.if-is_empty.false (Ok mid)
    (subst (λ x. Each (ShowsName (request_context_of c.args.settings files listings) (report_mode kind) (report_text kind)) names x (Ok mid)) (c.in_ok-progress.ensures.done e) h))
