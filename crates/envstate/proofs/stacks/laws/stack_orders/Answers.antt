use Rattle.envstate.proofs.stacks.StackInOrder.{push_in_order, pop_in_order, order_of_more, order_of_fewer}
use Rattle.envstate.proofs.stacks.laws.stack_orders.Goals as goal

pub returns-clause-push : goal.returns-clause-push
returns-clause-push c = push_in_order

pub returns-clause-pop : goal.returns-clause-pop
returns-clause-pop c = pop_in_order

pub returns-clause-more : goal.returns-clause-more
returns-clause-more c = order_of_more

pub returns-clause-fewer : goal.returns-clause-fewer
returns-clause-fewer c = order_of_fewer
