use Rattle.audit_laws.proofs.returns.RunAgain.{files_run_again, plain_files_run_again}
use Rattle.audit_laws.proofs.returns.laws.files_run_again.Goals as goal

pub returns-clause-stable : goal.returns-clause-stable
returns-clause-stable c = files_run_again

pub returns-clause-plain : goal.returns-clause-plain
returns-clause-plain c = plain_files_run_again
