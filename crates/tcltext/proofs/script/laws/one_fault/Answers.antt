use Rattle.tcltext.proofs.script.Whole.{fault_unique}
use Rattle.tcltext.proofs.script.laws.one_fault.Goals as goal

pub returns : goal.returns
returns c = fault_unique
