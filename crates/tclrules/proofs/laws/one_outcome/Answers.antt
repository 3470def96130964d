use Rattle.tclrules.proofs.Outcomes as Laws
use Rattle.tclrules.proofs.laws.one_outcome.Goals as goal

pub returns : goal.returns
returns c = λ s o o2 w w2 d d2. Laws.one_outcome d d2
