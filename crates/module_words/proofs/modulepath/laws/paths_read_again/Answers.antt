use Rattle.module_words.proofs.modulepath.ReadAgain.{used_read_again, unused_read_again}
use Rattle.module_words.proofs.modulepath.laws.paths_read_again.Goals as goal

pub returns-clause-used : goal.returns-clause-used
returns-clause-used c = used_read_again

pub returns-clause-unused : goal.returns-clause-unused
returns-clause-unused c = unused_read_again
