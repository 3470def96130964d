use Rattle.envstate.proofs.loaded_list.LoadedEdits.{loaded_after_add, loaded_after_drop, others_stay}
use Rattle.envstate.proofs.loaded_list.laws.loaded_edits.Goals as goal

pub returns-clause-add : goal.returns-clause-add
returns-clause-add c = loaded_after_add

pub returns-clause-drop : goal.returns-clause-drop
returns-clause-drop c = loaded_after_drop

pub returns-clause-leaves : goal.returns-clause-leaves
returns-clause-leaves c = others_stay
