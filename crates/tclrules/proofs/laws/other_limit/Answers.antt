use Rattle.std.proofs.Common.{arith}
use Rattle.tclrules.proofs.Outcomes.{same_below, met_above}
use Rattle.tclrules.proofs.laws.other_limit.Goals as goal

pub returns-clause-same : goal.returns-clause-same
returns-clause-same c = λ s o w n d h g. same_below d h n g

pub returns-clause-met : goal.returns-clause-met
returns-clause-met c = λ s o w n d h. met_above d n (omega arith) h
