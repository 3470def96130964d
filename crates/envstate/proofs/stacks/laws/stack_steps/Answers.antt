use Rattle.envstate.proofs.stacks.StackLemmas.{push-start_with_pushes, pop-start_with_pushes}
use Rattle.envstate.proofs.stacks.laws.stack_steps.Goals as goal

pub returns-clause-push : goal.returns-clause-push
returns-clause-push c = push-start_with_pushes

pub returns-clause-pop : goal.returns-clause-pop
returns-clause-pop c = pop-start_with_pushes
