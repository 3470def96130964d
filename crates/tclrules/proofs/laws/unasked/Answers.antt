use Rattle.tclrules.proofs.Consultations as Laws
use Rattle.tclrules.proofs.laws.unasked.Goals as goal

pub returns : goal.returns
returns c = λ s o w d h. Laws.unasked d h
