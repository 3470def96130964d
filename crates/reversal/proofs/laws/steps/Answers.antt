use Rattle.reversal.proofs.WholeRuns.{steps_keep}
use Rattle.reversal.proofs.laws.steps.Goals as goal

pub returns : goal.returns
returns c = steps_keep
