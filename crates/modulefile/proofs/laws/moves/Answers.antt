use Rattle.modulefile.proofs.Moved.{moved_allowed, reach_allowed, reach_made, reach_composes}
use Rattle.modulefile.proofs.laws.moves.Goals as goal

pub returns-clause-allowed : goal.returns-clause-allowed
returns-clause-allowed c = λ m old new h. moved_allowed m old new h

pub returns-clause-all_allowed : goal.returns-clause-all_allowed
returns-clause-all_allowed c = λ ms old new h. reach_allowed ms old new h

pub returns-clause-all_moved : goal.returns-clause-all_moved
returns-clause-all_moved c = λ ms old new h. reach_made ms old new h

pub returns-clause-compose : goal.returns-clause-compose
returns-clause-compose c = λ ms more old mid new h k. reach_composes ms more old mid new h k
