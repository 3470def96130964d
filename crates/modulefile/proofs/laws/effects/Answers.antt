use Rattle.modulefile.proofs.Effected.{all_allowed, effects_go_on}
use Rattle.modulefile.proofs.laws.effects.Goals as goal

pub returns-clause-allowed : goal.returns-clause-allowed
returns-clause-allowed c = λ mode owner rs old new h. all_allowed mode owner rs old new h

pub returns-clause-compose : goal.returns-clause-compose
returns-clause-compose c = λ mode owner rs more old mid new h k. effects_go_on mode owner rs more old mid new h k
