use Rattle.envstate.proofs.loaded_list.LoadedOrder.{add_in_order, drop_in_order, drop_keeps_order}
use Rattle.envstate.proofs.loaded_list.laws.loaded_orders.Goals as goal

pub returns-clause-add : goal.returns-clause-add
returns-clause-add c = add_in_order

pub returns-clause-drop : goal.returns-clause-drop
returns-clause-drop c = drop_in_order

pub returns-clause-preserves : goal.returns-clause-preserves
returns-clause-preserves c = drop_keeps_order
