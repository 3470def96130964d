use Rattle.reversal.proofs.Lost.{element_removed, other_records, start_unloaded}
use Rattle.reversal.proofs.examples.kinds.Goals as goal

pub returns-clause-element_removed : goal.returns-clause-element_removed
returns-clause-element_removed c = element_removed

pub returns-clause-other_records : goal.returns-clause-other_records
returns-clause-other_records c = other_records

pub returns-clause-start_unloaded : goal.returns-clause-start_unloaded
returns-clause-start_unloaded c = start_unloaded
