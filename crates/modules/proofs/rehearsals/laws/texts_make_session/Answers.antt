use Rattle.modules.proofs.rehearsals.Chain.{chain}
use Rattle.modules.proofs.rehearsals.laws.texts_make_session.Goals as goal

pub returns : goal.returns
returns c s e rs ps end h n = chain c.difference_makes.ensures s e rs h.responses ps h.prints n
