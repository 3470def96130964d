use Rattle.std.proofs.lemmas.Result.{err_from_is_err_and}
use Rattle.module_reports.proofs.listings.FaultLemmas.{no_failure}
use Rattle.module_reports.proofs.listings.list.loaded_report.Goals as goal

pub returns-in_err-options-clause-fault : goal.returns-in_err-options-clause-fault
returns-in_err-options-clause-fault c =
    let p = err_from_is_err_and c.from_residual.result c.from_residual.ensures.1 in
    rw (p.1, p.2) (no_failure c.in_err-options.field-0.0 c.in_err-options.ensures.reason)
