use Rattle.tcltext.proofs.expr.Clauses.{one_fault, no_tree}
use Rattle.tcltext.proofs.expr.laws.one_fault.Goals as goal

pub returns-clause-one : goal.returns-clause-one
returns-clause-one c = one_fault

pub returns-clause-no_tree : goal.returns-clause-no_tree
returns-clause-no_tree c = no_tree
