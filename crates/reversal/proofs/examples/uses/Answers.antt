use Rattle.reversal.proofs.Lost.{set_and_pushed, unset_and_pushed, added_and_pushed, two_delimiters, set_by_two_falls}
use Rattle.reversal.proofs.Lost.{set_and_absent_falls}
use Rattle.reversal.proofs.examples.uses.Goals as goal

pub returns-clause-set_and_pushed : goal.returns-clause-set_and_pushed
returns-clause-set_and_pushed c = set_and_pushed

pub returns-clause-unset_and_pushed : goal.returns-clause-unset_and_pushed
returns-clause-unset_and_pushed c = unset_and_pushed

pub returns-clause-added_and_pushed : goal.returns-clause-added_and_pushed
returns-clause-added_and_pushed c = added_and_pushed

pub returns-clause-two_delimiters : goal.returns-clause-two_delimiters
returns-clause-two_delimiters c = two_delimiters

pub returns-clause-set_by_two : goal.returns-clause-set_by_two
returns-clause-set_by_two c = set_by_two_falls

pub returns-clause-set_and_absent : goal.returns-clause-set_and_absent
returns-clause-set_and_absent c = set_and_absent_falls
