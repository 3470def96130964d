use Rattle.modulefile.proofs.PlayedFiles.{played_runs}
use Rattle.modulefile.proofs.laws.played.Goals as goal

pub returns : goal.returns
returns c = played_runs
