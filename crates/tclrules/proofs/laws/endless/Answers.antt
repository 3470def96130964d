use Rattle.std.proofs.Common.{arith}
use Rattle.tclrules.proofs.Outcomes.{met_above}
use Rattle.tclrules.proofs.laws.endless.Goals as goal

pub returns : goal.returns
returns c = λ s n h. let i = h n in met_above i.3 n (omega arith) i.4
