use Rattle.envstate.proofs.stacks.StackAgain.{stack_again, stack_found, stack_readable}
use Rattle.envstate.proofs.stacks.laws.stack_texts.Goals as goal

pub returns-clause-read_again : goal.returns-clause-read_again
returns-clause-read_again c = stack_again

pub returns-clause-found : goal.returns-clause-found
returns-clause-found c = stack_found

pub returns-clause-writable : goal.returns-clause-writable
returns-clause-writable c = stack_readable
