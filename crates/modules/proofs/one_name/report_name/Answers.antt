use Rattle.std.proofs.Common.{false, map, Ok, Err, refl}
use Rattle.std.proofs.lemmas.Result.{err_from_is_err_and}
use Rattle.envstate.specs.loaded_list.LoadedEntries.{entry_view}
use Rattle.search.specs.Answers.{found_view}
use Rattle.requests.specs.Steps.{Finds, ShowsName}
use Rattle.requests.specs.Looked.{SearchLooksAt, ShowLooksAt}
use Rattle.modules.specs.Views.{request_context_of, done_view}
use Rattle.modules.specs.Parts.{ReportsFound, report_mode, report_text}
use Rattle.modules.proofs.TreeAnswers.{refused, then_given}
use Rattle.modules.proofs.one_name.report_name.Goals as goal

pub returns-in_err-found-clause-reported : goal.returns-in_err-found-clause-reported
returns-in_err-found-clause-reported g c =
    let e = g.V.Vars.vars c.args.env.now in
    let d = done_view c.args.progress.now.done e in
    let xs = map entry_view c.args.progress.now.list.entries.items in
    let kind = c.args.report_kind in
    let typed = c.args.typed.now in
    refused found_view c.in_err-found.field-0.0 (λ files listings. Finds
    (request_context_of c.args.settings files listings) e typed)
    (λ files listings. SearchLooksAt (request_context_of c.args.settings files listings) e typed)
    (λ (u : Unit {0}). d) c.from_residual.result (λ files listings. ShowsName
    (request_context_of c.args.settings files listings) (report_mode kind) (report_text kind) typed d)
    (λ files listings. ShowLooksAt (request_context_of c.args.settings files listings) typed d)
    (err_from_is_err_and c.from_residual.result c.from_residual.ensures.1) c.in_err-found.ensures
    (λ files listings r h. (Ok xs, c.requires, (Err r, h, refl)))
    (λ files listings at h. record { entries = xs; read = c.requires; searched = h })

pub returns-clause-reported : goal.returns-clause-reported
returns-clause-reported g c =
    let e = g.V.Vars.vars c.args.env.now in
    let d = done_view c.args.progress.now.done e in
    let xs = map entry_view c.args.progress.now.list.entries.items in
    let kind = c.args.report_kind in
    let typed = c.args.typed.now in
    let m = found_view c.in_ok-found.found in
    then_given found_view c.in_ok-found.found (λ files listings. Finds
    (request_context_of c.args.settings files listings) e typed)
    (λ files listings. SearchLooksAt (request_context_of c.args.settings files listings) e typed)
    (λ (u : Unit {0}). done_view c.report_found.new.progress.done (g.V.Vars.vars c.report_found.new.env)) c.report_found.result
    (λ files listings. ReportsFound (record { settings = c.args.settings; in_switch = false; typed = c.args.typed }) kind m xs d)
    (λ files listings. ShowsName (request_context_of c.args.settings files listings) (report_mode kind)
    (report_text kind) typed d) (λ files listings. ShowLooksAt (request_context_of c.args.settings files listings)
    typed d)
    c.in_ok-found.ensures (λ files listings. c.report_found.ensures.given)
    (λ files listings h o k. (Ok xs, c.requires, (Ok m, h, k)))

pub report_found-requires : goal.report_found-requires
report_found-requires g c = c.requires

pub returns-clause-listed : goal.returns-clause-listed
returns-clause-listed g c = c.report_found.ensures.listed
