use Rattle.tcltext.proofs.list.ListAnswers.{one_fault, no_list}
use Rattle.tcltext.proofs.list.laws.one_list_fault.Goals as goal

pub returns-clause-one : goal.returns-clause-one
returns-clause-one c = one_fault

pub returns-clause-no_list : goal.returns-clause-no_list
returns-clause-no_list c = no_list
