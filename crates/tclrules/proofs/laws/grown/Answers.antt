use Rattle.tclrules.proofs.Consultations as Laws
use Rattle.tclrules.proofs.laws.grown.Goals as goal

pub returns-clause-grows : goal.returns-clause-grows
returns-clause-grows c = λ s o w d. Laws.grown d

pub returns-clause-preserved : goal.returns-clause-preserved
returns-clause-preserved c = λ s o w holds d h keeps. Laws.kept holds (Laws.grown d) h keeps
