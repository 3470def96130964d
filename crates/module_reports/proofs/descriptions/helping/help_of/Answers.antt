use Rattle.std.proofs.lemmas.Result.{err_from_is_err_and}
use Rattle.search.specs.Answers.{found_view}
use Rattle.modules.specs.Answers.{cause_of}
use Rattle.module_reports.specs.descriptions.Views.{context_for}
use Rattle.module_reports.proofs.descriptions.HelpLemmas.{called_found, refused_found}
use Rattle.module_reports.proofs.descriptions.helping.help_of.Goals as goal

pub returns-in_err-description : goal.returns-in_err-description
returns-in_err-description c =
    let p = err_from_is_err_and c.from_residual.result c.from_residual.ensures.1 in
    let m = found_view c.args.found.now in
    rw (p.1, p.2) (refused_found c.args.request.limits (context_for c.args.request m c.args.env.now) m (cause_of c.in_err-description.field-0.0) c.in_err-description.ensures)

pub returns : goal.returns
returns c =
    let m = found_view c.args.found.now in
    called_found c.args.request.limits (context_for c.args.request m c.args.env.now) m _ c.called.result c.in_ok-description.ensures c.called.ensures
