use Rattle.envstate.proofs.loaded_list.LoadedAgain.{loaded_again}
use Rattle.envstate.proofs.loaded_list.LoadedReadable.{loaded_readable}
use Rattle.envstate.proofs.loaded_list.laws.loaded_texts.Goals as goal

pub returns-clause-read_again : goal.returns-clause-read_again
returns-clause-read_again c = loaded_again

pub returns-clause-writable : goal.returns-clause-writable
returns-clause-writable c = loaded_readable
