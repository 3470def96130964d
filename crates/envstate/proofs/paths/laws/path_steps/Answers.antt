use Rattle.envstate.proofs.paths.PathLemmas.{IsPathStartWith-start, IsPathStartWith-add_all, IsPathStartWith-drop_all}
use Rattle.envstate.proofs.paths.PathLemmas.{IsPathStartWith-restored}
use Rattle.envstate.proofs.paths.laws.path_steps.Goals as goal

pub returns-clause-start : goal.returns-clause-start
returns-clause-start c = IsPathStartWith-start

pub returns-clause-add : goal.returns-clause-add
returns-clause-add c = IsPathStartWith-add_all

pub returns-clause-drop : goal.returns-clause-drop
returns-clause-drop c = IsPathStartWith-drop_all

pub returns-clause-restored : goal.returns-clause-restored
returns-clause-restored c = IsPathStartWith-restored
