use Rattle.filetree.proofs.FailedPaths.{only_if}
use Rattle.module_reports.proofs.descriptions.all_names.all_names.Goals as goal

pub returns-in_err-listings-clause-failed : goal.returns-in_err-listings-clause-failed
returns-in_err-listings-clause-failed g c = only_if _ _ _ _ (rw c.modulepath.ensures at c.in_err-listings.ensures.failed)
