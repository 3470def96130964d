use Rattle.envstate.proofs.StateLemmas.{names_added, names_dropped, list_in_order, dropped_list}
use Rattle.envstate.proofs.laws.lists.Goals as goal

pub returns-clause-add : goal.returns-clause-add
returns-clause-add c = names_added

pub returns-clause-drop : goal.returns-clause-drop
returns-clause-drop c = names_dropped

pub returns-clause-order : goal.returns-clause-order
returns-clause-order c = list_in_order

pub returns-clause-dropped : goal.returns-clause-dropped
returns-clause-dropped c = dropped_list
