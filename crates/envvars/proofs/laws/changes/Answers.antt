use Rattle.envvars.proofs.laws.changes.Goals as goal
use Rattle.envvars.proofs.ChangeLemmas.{applied-changes}

pub returns : goal.returns
returns c = applied-changes
