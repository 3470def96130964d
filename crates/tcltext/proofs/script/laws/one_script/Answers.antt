use Rattle.tcltext.proofs.script.Whole.{one_tree}
use Rattle.tcltext.proofs.script.laws.one_script.Goals as goal

pub returns : goal.returns
returns c = one_tree
