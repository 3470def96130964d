use Rattle.envstate.proofs.StateLemmas.{one_path, one_stack, one_list}
use Rattle.envstate.proofs.laws.unique_texts.Goals as goal

pub returns-clause-paths : goal.returns-clause-paths
returns-clause-paths c = one_path

pub returns-clause-stacks : goal.returns-clause-stacks
returns-clause-stacks c = one_stack

pub returns-clause-loaded : goal.returns-clause-loaded
returns-clause-loaded c = one_list
