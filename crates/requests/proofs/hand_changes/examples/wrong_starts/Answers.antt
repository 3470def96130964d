use Rattle.requests.proofs.hand_changes.LostChanges.{counters_forgotten, element_of_start_taken}
use Rattle.requests.proofs.hand_changes.examples.wrong_starts.Goals as goal

pub returns-clause-counters_forgotten : goal.returns-clause-counters_forgotten
returns-clause-counters_forgotten c = counters_forgotten

pub returns-clause-element_of_start_taken : goal.returns-clause-element_of_start_taken
returns-clause-element_of_start_taken c = element_of_start_taken
