use Rattle.reversal.proofs.Lost.{empty_path, counter_of_none, bottom_alone, hidden_value, other_escapes}
use Rattle.reversal.proofs.Lost.{owner_not_loaded, value_before_set, other_value, value_before_unset}
use Rattle.reversal.proofs.examples.starts.Goals as goal

pub returns-clause-empty_path : goal.returns-clause-empty_path
returns-clause-empty_path c = empty_path

pub returns-clause-counter_of_none : goal.returns-clause-counter_of_none
returns-clause-counter_of_none c = counter_of_none

pub returns-clause-bottom_alone : goal.returns-clause-bottom_alone
returns-clause-bottom_alone c = bottom_alone

pub returns-clause-hidden_value : goal.returns-clause-hidden_value
returns-clause-hidden_value c = hidden_value

pub returns-clause-other_escapes : goal.returns-clause-other_escapes
returns-clause-other_escapes c = other_escapes

pub returns-clause-owner_not_loaded : goal.returns-clause-owner_not_loaded
returns-clause-owner_not_loaded c = owner_not_loaded

pub returns-clause-value_before_set : goal.returns-clause-value_before_set
returns-clause-value_before_set c = value_before_set

pub returns-clause-other_value : goal.returns-clause-other_value
returns-clause-other_value c = other_value

pub returns-clause-value_before_unset : goal.returns-clause-value_before_unset
returns-clause-value_before_unset c = value_before_unset
