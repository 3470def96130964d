use Rattle.std.proofs.Common.{Result, Ok, Err}
use Rattle.std.proofs.lemmas.Result.{err_from_is_err_and}
use Rattle.search.specs.Answers.{found_view}
use Rattle.modulefile_run.specs.Running.{file_reason_of}
use Rattle.modulefile_run.specs.declared.run.FileRun.{FileRun}
use Rattle.modulefile_run.specs.declared.run_fault.RunFault.{RunFault}
use Rattle.module_reports.specs.descriptions.Views.{context_for}
use Rattle.module_reports.proofs.descriptions.HelpLemmas.{describes, of_text, undescribed, written_of}
use Rattle.module_reports.proofs.descriptions.helping.described.Goals as goal

pub returns-in_err-ran : goal.returns-in_err-ran
returns-in_err-ran c =
    let p = err_from_is_err_and c.from_residual.result c.from_residual.ensures.1 in
    let m = found_view c.args.found.now in
    let limits = c.args.request.limits in
    let context = context_for c.args.request m c.args.env.now in
    let result : Result FileRun RunFault = Err c.in_err-ran.field-0.0 in
    rw (p.1, p.2) (undescribed limits context m (file_reason_of c.in_err-ran.field-0.0)
    (of_text limits context m.text c.as_str.result.now result c.as_str.ensures.value c.in_err-ran.ensures))

pub returns : goal.returns
returns c =
    let m = found_view c.args.found.now in
    let limits = c.args.request.limits in
    let context = context_for c.args.request m c.args.env.now in
    let result : Result FileRun RunFault = Ok c.in_ok-ran.ran in
    let ran = of_text limits context m.text c.as_str.result.now result c.as_str.ensures.value c.in_ok-ran.ensures in
    describes limits context m c.in_ok-ran.ran ran.0 _ ran.1
    (written_of _ _ _ _ m.name c.as_str-2.result.now c.as_slice.result.now c.in_ok-ran.ran.messages.items c.as_slice-2.result.now c.in_ok-ran.ran.records.items
    c.in_ok-push_str.ensures.bytes c.as_str-3.ensures.value c.in_ok-text.ensures c.as_slice.ensures.value c.in_ok-report.ensures c.as_str-2.ensures.value c.as_slice-2.ensures.value)
