use Rattle.modulefile.proofs.ComputedFiles as computed
use Rattle.modulefile.proofs.ComputedFiles.{comes}
use Rattle.modulefile.proofs.rows.refused_rows.Goals as goal

pub returns-clause-protected : goal.returns-clause-protected
returns-clause-protected c = λ e. comes _ _ 400 _ (computed.refused_protected e)

pub returns-clause-field : goal.returns-clause-field
returns-clause-field c = λ e. comes _ _ 400 _ (computed.refused_field e)
