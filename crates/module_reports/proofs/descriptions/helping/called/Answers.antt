use Rattle.std.proofs.Common.{Result, Ok, Err, string_bytes, ap, ◌∙◌, map, sym}
use Rattle.search.specs.Answers.{found_view}
use Rattle.modulefile_run.specs.Running.{file_reason_of}
use Rattle.modulefile_run.specs.declared.run.FileRun.{FileRun}
use Rattle.modulefile_run.specs.declared.run_fault.RunFault.{RunFault}
use Rattle.module_reports.specs.descriptions.Calls.{with_call}
use Rattle.module_reports.specs.descriptions.Helps.{joined}
use Rattle.module_reports.specs.descriptions.Views.{context_for}
use Rattle.module_reports.proofs.descriptions.HelpLemmas.{helps, of_text, unhelped, without_help}
use Rattle.module_reports.proofs.descriptions.helping.called.Goals as goal

pub returns-in_ok-said-in-Ok : goal.returns-in_ok-said-in-Ok
returns-in_ok-said-in-Ok c =
    let m = found_view c.args.found.now in
    let limits = c.args.request.limits in
    let context = context_for c.args.request m c.args.env.now in
    let called = c.as_str-2.ensures.value ∙ c.in_ok-text.ensures ∙ ap with_call c.as_str.ensures.value in
    let result : Result FileRun RunFault = Ok c.in-Ok.ran in
    let ran = of_text limits context (with_call m.text) c.as_str-2.result.now result called c.in-Ok.ensures in
    helps limits context m (string_bytes c.args.description) c.in-Ok.ran ran.0 _ (string_bytes c.in_ok-said-in-Ok.said) ran.1 c.said_or.ensures
    (c.in_ok-said-in-Ok.ensures ∙ ap (λ l. joined (map string_bytes l)) c.as_slice.ensures.value)

pub returns-then-lacks_help : goal.returns-then-lacks_help
returns-then-lacks_help c =
    let m = found_view c.args.found.now in
    let limits = c.args.request.limits in
    let context = context_for c.args.request m c.args.env.now in
    let called = c.as_str-2.ensures.value ∙ c.in_ok-text.ensures ∙ ap with_call c.as_str.ensures.value in
    let result : Result FileRun RunFault = Err c.in-Err.refused in
    let ran = of_text limits context (with_call m.text) c.as_str-2.result.now result called c.in-Err.ensures in
    without_help limits context m (string_bytes c.args.description) (file_reason_of c.in-Err.refused) (sym c.lacks_help.ensures ∙ c.if-lacks_help.true) ran

pub returns-else-lacks_help : goal.returns-else-lacks_help
returns-else-lacks_help c =
    let m = found_view c.args.found.now in
    let limits = c.args.request.limits in
    let context = context_for c.args.request m c.args.env.now in
    let called = c.as_str-2.ensures.value ∙ c.in_ok-text.ensures ∙ ap with_call c.as_str.ensures.value in
    let result : Result FileRun RunFault = Err c.in-Err.refused in
    let ran = of_text limits context (with_call m.text) c.as_str-2.result.now result called c.in-Err.ensures in
    rw (c.without_place.ensures) (unhelped limits context m (string_bytes c.args.description) (file_reason_of c.in-Err.refused) (sym c.lacks_help.ensures ∙ c.if-lacks_help.false) ran)
