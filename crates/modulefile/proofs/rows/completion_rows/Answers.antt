use Rattle.modulefile.proofs.ComputedFiles as computed
use Rattle.modulefile.proofs.ComputedFiles.{comes}
use Rattle.modulefile.proofs.rows.completion_rows.Goals as goal

pub returns-clause-messages : goal.returns-clause-messages
returns-clause-messages c = λ e. comes _ _ 400 _ (computed.ending_messages e)

pub returns-clause-returns : goal.returns-clause-returns
returns-clause-returns c = λ e. comes _ _ 400 _ (computed.ending_returns e)

pub returns-clause-error : goal.returns-clause-error
returns-clause-error c = λ e. comes _ _ 400 _ (computed.ending_error e)
