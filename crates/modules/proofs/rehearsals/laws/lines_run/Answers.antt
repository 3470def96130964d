use Rattle.modules.proofs.rehearsals.LawLemmas.{lines_run}
use Rattle.modules.proofs.rehearsals.laws.lines_run.Goals as goal

pub returns : goal.returns
returns c = lines_run
