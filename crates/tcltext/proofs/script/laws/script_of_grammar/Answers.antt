use Rattle.tcltext.proofs.script.Whole.{tree_is, tree_met, fault_is, fault_met, fault_excludes}
use Rattle.tcltext.proofs.script.laws.script_of_grammar.Goals as goal
use Rattle.std.proofs.Common.{refl}
use Rattle.tcltext.specs.declared.chars.fault.TextFault.TheVariants.{OutOfMemory}

pub returns-clause-tree : goal.returns-clause-tree
returns-clause-tree c = λ bs s. (tree_is bs s, λ h. tree_met bs s h)

pub returns-clause-fault : goal.returns-clause-fault
returns-clause-fault c = λ bs f some. (λ h. (fault_is bs f h).0, fault_met bs f some)

pub returns-clause-no_memory : goal.returns-clause-no_memory
returns-clause-no_memory c = λ bs h. (fault_is bs OutOfMemory h).1 refl

pub returns-clause-no_tree : goal.returns-clause-no_tree
returns-clause-no_tree c = fault_excludes
