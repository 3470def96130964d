use Rattle.envstate.proofs.stacks.StackAfter.{stack_after_push, written_after_push, others_after_push, stack_after_pop}
use Rattle.envstate.proofs.stacks.StackAfter.{written_after_pop, others_after_pop}
use Rattle.envstate.proofs.stacks.laws.stack_edits.Goals as goal

pub returns-clause-push : goal.returns-clause-push
returns-clause-push c = stack_after_push

pub returns-clause-push_writes : goal.returns-clause-push_writes
returns-clause-push_writes c = written_after_push

pub returns-clause-push_leaves : goal.returns-clause-push_leaves
returns-clause-push_leaves c = others_after_push

pub returns-clause-pop : goal.returns-clause-pop
returns-clause-pop c = stack_after_pop

pub returns-clause-pop_writes : goal.returns-clause-pop_writes
returns-clause-pop_writes c = written_after_pop

pub returns-clause-pop_leaves : goal.returns-clause-pop_leaves
returns-clause-pop_leaves c = others_after_pop
