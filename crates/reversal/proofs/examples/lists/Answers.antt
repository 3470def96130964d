use Rattle.reversal.proofs.Lost.{empty_lists, needs_of_none, conflict_twice, ill_spelled, empty_group}
use Rattle.reversal.proofs.examples.lists.Goals as goal

pub returns-clause-empty_lists : goal.returns-clause-empty_lists
returns-clause-empty_lists c = empty_lists

pub returns-clause-needs_of_none : goal.returns-clause-needs_of_none
returns-clause-needs_of_none c = needs_of_none

pub returns-clause-conflict_twice : goal.returns-clause-conflict_twice
returns-clause-conflict_twice c = conflict_twice

pub returns-clause-ill_spelled : goal.returns-clause-ill_spelled
returns-clause-ill_spelled c = ill_spelled

pub returns-clause-empty_group : goal.returns-clause-empty_group
returns-clause-empty_group c = empty_group
