use Rattle.modulefile.proofs.ComputedFiles as computed
use Rattle.modulefile.proofs.ComputedFiles.{comes}
use Rattle.modulefile.proofs.rows.file_rows.Goals as goal

pub returns-clause-load : goal.returns-clause-load
returns-clause-load c = λ e. comes _ _ 400 _ (computed.file_load e)

pub returns-clause-unload : goal.returns-clause-unload
returns-clause-unload c = λ e. comes _ _ 400 _ (computed.file_unload e)

pub returns-clause-display : goal.returns-clause-display
returns-clause-display c = λ e. comes _ _ 400 _ (computed.file_display e)

pub returns-clause-unset_back : goal.returns-clause-unset_back
returns-clause-unset_back c = λ e. comes _ _ 400 _ (computed.file_unset_back e)
