use Rattle.envstate.proofs.paths.CounterLemmas.{SpellsCounter-counter_of, counter_of-SpellsCounter}
use Rattle.envstate.proofs.paths.laws.counters.Goals as goal

pub returns : goal.returns
returns c = λ t n. (SpellsCounter-counter_of t n, counter_of-SpellsCounter t n)
