use Rattle.envstate.proofs.paths.laws.paths.Goals as goal
use Rattle.envstate.proofs.paths.PathLemmas.{IsPathStartWith-after, IsPathStartWith-restored}

pub returns-clause-start_with_live : goal.returns-clause-start_with_live
returns-clause-start_with_live c = IsPathStartWith-after

pub returns-clause-restored : goal.returns-clause-restored
returns-clause-restored c = λ start edits is each none. IsPathStartWith-restored start _ _ (IsPathStartWith-after start edits is each) none
