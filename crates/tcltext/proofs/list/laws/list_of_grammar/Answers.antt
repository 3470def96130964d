use Rattle.tcltext.proofs.list.ListAnswers.{elements_law, fault_law, no_memory}
use Rattle.tcltext.proofs.list.laws.list_of_grammar.Goals as goal

pub returns-clause-elements : goal.returns-clause-elements
returns-clause-elements c = elements_law

pub returns-clause-fault : goal.returns-clause-fault
returns-clause-fault c = fault_law

pub returns-clause-no_memory : goal.returns-clause-no_memory
returns-clause-no_memory c = no_memory
