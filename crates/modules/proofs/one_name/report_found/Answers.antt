use Rattle.std.proofs.Common.{◌≡◌, map, Ok, Err, refl, sym, ap, ◌∙◌}
use Rattle.std.proofs.lemmas.Result.{err_from_is_err_and}
use Rattle.envvars.specs.Texts.{Text}
use Rattle.envvars.specs.Environment.{Environment}
use Rattle.envstate.specs.loaded_list.LoadedEntries.{entry_view}
use Rattle.modulefile.specs.Files.{RunsFile}
use Rattle.search.specs.Answers.{found_view}
use Rattle.modulefile_run.specs.Running.{ran_view}
use Rattle.requests.specs.Reasons.{file_refused}
use Rattle.requests.specs.Refusals.{RefusedAs}
use Rattle.requests.specs.Steps.{with_report}
use Rattle.modules.specs.Views.{done_view}
use Rattle.modules.specs.Answers.{cause_of}
use Rattle.modules.specs.Parts.{file_context, ReportsFound, report_mode, report_text}
use Rattle.modules.proofs.StepLemmas.{stands_as, run_made, report_same}
use Rattle.modules.proofs.one_name.report_found.Goals as goal

pub returns-in_err-ran-clause-given : goal.returns-in_err-ran-clause-given
returns-in_err-ran-clause-given g c =
    let p = err_from_is_err_and c.from_residual.result c.from_residual.ensures.1 in
    let a = c.args.name_request in
    let m = found_view c.args.found.now in
    let d = done_view c.args.progress.now.done (g.V.Vars.vars c.args.env.now) in
    let xs = map entry_view c.args.progress.now.list.entries.items in
    let given = rw (c.mode_of_report.ensures, c.of-file.ensures.name, c.of-file.ensures.path, c.of-file.ensures.text) at c.in_err-ran.ensures.given in
    rw (p.1, p.2) (stands_as (cause_of c.in_err-ran.field-0.0) ⊥ ⊥
    (λ r. RefusedAs file_refused (RunsFile a.settings.limits
    (file_context a (report_mode c.args.report_kind) m.name m.path xs d.env) m.text) (Err r))
    (λ r. ReportsFound a c.args.report_kind m xs d (Err r)) (λ q. q) (λ r h. (Err r, h, refl)) given)

pub returns-clause-given : goal.returns-clause-given
returns-clause-given g c =
    let a = c.args.name_request in
    let m = found_view c.args.found.now in
    let e = g.V.Vars.vars c.args.env.now in
    let d = done_view c.args.progress.now.done e in
    let xs = map entry_view c.args.progress.now.list.entries.items in
    let last = g.V.Vars.vars c.evaluate.new.env in
    let ran = ran_view c.in_ok-ran.ran last in
    let given = rw (c.mode_of_report.ensures, c.of-file.ensures.name, c.of-file.ensures.path, c.of-file.ensures.text) at c.in_ok-ran.ensures.given in
    let made = run_made a.settings.limits (file_context a (report_mode c.args.report_kind) m.name m.path xs d.env) m.text ran given in
    let same : last ≡ e = report_same c.args.report_kind m.name ran.records e last made in
    let said : c.as_str.result.now ≡ report_text c.args.report_kind m ran.records = c.as_str.ensures.value ∙ c.in_ok-text.ensures in (
      Ok ran,
      given,
      ap Ok (c.in_ok-report_on.ensures last
          ∙ (ap (λ (x : Environment). with_report (done_view c.args.progress.now.done x) ran.messages c.as_str.result.now) same ∙ ap (λ (t : Text). with_report d ran.messages t) said)),
    )

pub returns-clause-listed : goal.returns-clause-listed
returns-clause-listed g c = c.requires ∙ sym c.in_ok-ran.ensures.listed
