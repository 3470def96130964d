use Rattle.modulefile.proofs.ComputedFiles as computed
use Rattle.modulefile.proofs.ComputedFiles.{comes}
use Rattle.modulefile.proofs.rows.question_rows.Goals as goal

pub returns-clause-mode_unload : goal.returns-clause-mode_unload
returns-clause-mode_unload c = λ e. comes _ _ 400 _ (computed.question_mode_unload e)

pub returns-clause-loaded : goal.returns-clause-loaded
returns-clause-loaded c = λ e. comes _ _ 400 _ (computed.question_loaded e)

pub returns-clause-getenv_shown : goal.returns-clause-getenv_shown
returns-clause-getenv_shown c = λ e. comes _ _ 400 _ (computed.question_getenv_shown e)
