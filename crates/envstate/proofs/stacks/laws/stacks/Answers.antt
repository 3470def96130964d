use Rattle.std.proofs.Common.{[], ap, ◌∙◌}
use Rattle.envstate.specs.stacks.StackRuns.{start_with_pushes}
use Rattle.envstate.proofs.stacks.StackLemmas.{after-start_with_pushes}
use Rattle.envstate.proofs.stacks.laws.stacks.Goals as goal

pub returns-clause-start_with_live : goal.returns-clause-start_with_live
returns-clause-start_with_live c = λ start edits h k. after-start_with_pushes start [] edits h k

pub returns-clause-restored : goal.returns-clause-restored
returns-clause-restored c = λ start edits h k none. after-start_with_pushes start [] edits h k ∙ ap (start_with_pushes start) none
