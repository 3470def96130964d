use Rattle.tcltext.proofs.list.Beginnings.{begins_before}
use Rattle.tcltext.proofs.list.laws.prefix_before_fault.Goals as goal

pub returns : goal.returns
returns c = begins_before
