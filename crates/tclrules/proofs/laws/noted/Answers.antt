use Rattle.std.proofs.Common.{[], sym}
use Rattle.std.proofs.lemmas.List.{append-nil}
use Rattle.tclrules.proofs.Consultations as Laws
use Rattle.tclrules.proofs.laws.noted.Goals as goal

pub returns : goal.returns
returns c = λ s o w d. Laws.noted d w.trace.asked [] (sym (append-nil w.trace.asked))
