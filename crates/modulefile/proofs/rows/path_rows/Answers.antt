use Rattle.modulefile.proofs.ComputedFiles as computed
use Rattle.modulefile.proofs.ComputedFiles.{comes}
use Rattle.modulefile.proofs.rows.path_rows.Goals as goal

pub returns-clause-delimiters : goal.returns-clause-delimiters
returns-clause-delimiters c = λ e. comes _ _ 400 _ (computed.path_delimiters e)

pub returns-clause-value_after : goal.returns-clause-value_after
returns-clause-value_after c = λ e. comes _ _ 400 _ (computed.path_value_behind e)
