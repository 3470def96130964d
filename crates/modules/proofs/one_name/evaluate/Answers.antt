use Rattle.std.proofs.Common.{◌≡◌, List, map, string_bytes, Ok, Err, IfSome, refl, ap, subst}
use Rattle.std.proofs.lemmas.Result.{err_from_is_err_and}
use Rattle.envvars.specs.Texts.{Text}
use Rattle.envstate.specs.loaded_list.Loaded.{names_of}
use Rattle.envstate.specs.loaded_list.LoadedEntries.{entry_view}
use Rattle.modulefile.specs.RecordViews.{mode_view}
use Rattle.modulefile.specs.Files.{RunsFile}
use Rattle.modulefile_run.specs.Running.{ran_view, file_reason_of}
use Rattle.modules.specs.Parts.{context_with_loaded, file_context}
use Rattle.modules.proofs.StepLemmas.{run_refused, run_made}
use Rattle.requests.specs.Steps.{consistent}
use Rattle.reversal.proofs.Frames.{effects_leave_list}
use Rattle.modules.proofs.one_name.evaluate.Goals as goal

pub returns-in_err-run_file-clause-given : goal.returns-in_err-run_file-clause-given
returns-in_err-run_file-clause-given g c =
    let p = err_from_is_err_and c.from_residual.result c.from_residual.ensures.1 in
    let a = c.args.name_request in
    let file = c.args.file in
    let e = g.V.Vars.vars c.args.env.now in
    let fault = c.in_err-run_file.field-0.0 in
    let same : map string_bytes c.names.result.now ≡ names_of (map entry_view c.args.list.now.entries.items) = c.names.ensures in
    rw (p.1, p.2) (run_refused (file_reason_of fault) (RunsFile a.settings.limits
    (file_context a (mode_view c.args.mode) file.name.now file.path.now (map entry_view c.args.list.now.entries.items) e)
    file.text.now)
    (subst (λ (names : List Text). IfSome (file_reason_of fault)
    (λ stop. RunsFile a.settings.limits (context_with_loaded a (mode_view c.args.mode) file.name.now file.path.now
    names e) file.text.now (Err stop))) same c.in_err-run_file.ensures.runs.1))

pub returns-clause-given : goal.returns-clause-given
returns-clause-given g c =
    let a = c.args.name_request in
    let file = c.args.file in
    let e = g.V.Vars.vars c.args.env.now in
    let ran = ran_view c.in_ok-run_file.field-0 (g.V.Vars.vars c.run_file.new.env) in
    let same : map string_bytes c.names.result.now ≡ names_of (map entry_view c.args.list.now.entries.items) = c.names.ensures in (
      Ok ran,
      subst (λ (names : List Text). RunsFile a.settings.limits
          (context_with_loaded a (mode_view c.args.mode) file.name.now file.path.now names e) file.text.now (Ok ran)) same
          c.in_ok-run_file.ensures.runs,
      refl,
    )

pub returns-clause-listed : goal.returns-clause-listed
returns-clause-listed g c =
    let a = c.args.name_request in
    let file = c.args.file in
    let e = g.V.Vars.vars c.args.env.now in
    let last = g.V.Vars.vars c.run_file.new.env in
    let ran = ran_view c.in_ok-run_file.field-0 last in
    let context = context_with_loaded a (mode_view c.args.mode) file.name.now file.path.now (map string_bytes c.names.result.now) e in
    let made = run_made a.settings.limits context file.text.now ran (Ok ran, c.in_ok-run_file.ensures.runs, refl) in
    ap consistent (effects_leave_list (mode_view c.args.mode) file.name.now ran.records e last made)
