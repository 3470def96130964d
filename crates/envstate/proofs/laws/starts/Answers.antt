use Rattle.envstate.proofs.StateLemmas.{start_of, standing_absent}
use Rattle.envstate.proofs.laws.starts.Goals as goal

pub returns-clause-start : goal.returns-clause-start
returns-clause-start c = start_of

pub returns-clause-absent : goal.returns-clause-absent
returns-clause-absent c = standing_absent
