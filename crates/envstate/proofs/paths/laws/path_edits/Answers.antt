use Rattle.envstate.proofs.paths.PathOrderLemmas.{LeavesPath-added, LeavesPath-dropped}
use Rattle.envstate.proofs.paths.laws.path_edits.Goals as goal

pub returns-clause-add : goal.returns-clause-add
returns-clause-add c = LeavesPath-added

pub returns-clause-drop : goal.returns-clause-drop
returns-clause-drop c = LeavesPath-dropped
