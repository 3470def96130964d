use Rattle.tcltext.proofs.expr.Clauses.{tree_is, tree_met, fault_is, fault_met, no_memory}
use Rattle.tcltext.proofs.expr.laws.expr_of_grammar.Goals as goal

pub returns-clause-tree : goal.returns-clause-tree
returns-clause-tree c = λ bs e. (tree_is bs e, tree_met bs e)

pub returns-clause-fault : goal.returns-clause-fault
returns-clause-fault c = λ bs f some. ((λ h. (fault_is bs f h).0), fault_met bs f some)

pub returns-clause-no_memory : goal.returns-clause-no_memory
returns-clause-no_memory c = no_memory
