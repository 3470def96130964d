use Rattle.requests.proofs.hand_changes.LostChanges.{counted_element, lone_element, counter_left, path_emptied, pushed_value, set_value, loaded_names}
use Rattle.requests.proofs.hand_changes.examples.forbidden.Goals as goal

pub returns-clause-counted_element : goal.returns-clause-counted_element
returns-clause-counted_element c = counted_element

pub returns-clause-lone_element : goal.returns-clause-lone_element
returns-clause-lone_element c = lone_element

pub returns-clause-counter_left : goal.returns-clause-counter_left
returns-clause-counter_left c = counter_left

pub returns-clause-path_emptied : goal.returns-clause-path_emptied
returns-clause-path_emptied c = path_emptied

pub returns-clause-pushed_value : goal.returns-clause-pushed_value
returns-clause-pushed_value c = pushed_value

pub returns-clause-set_value : goal.returns-clause-set_value
returns-clause-set_value c = set_value

pub returns-clause-loaded_names : goal.returns-clause-loaded_names
returns-clause-loaded_names c = loaded_names
