use Rattle.envvars.proofs.ChangeLemmas.{deduplicated-ordered, deduplicated-same}
use Rattle.envvars.proofs.table.sorted_once.Goals as goal

pub returns-clause-ordered : goal.returns-clause-ordered
returns-clause-ordered c = deduplicated-ordered c.sort_unstable.new.self.items c.dedup.new.self.items c.dedup.ensures.filtered c.sort_unstable.ensures.sorted

pub returns-clause-same : goal.returns-clause-same
returns-clause-same c = λ q. deduplicated-same c.args.names.items c.sort_unstable.new.self.items c.dedup.new.self.items q c.sort_unstable.ensures.permutation c.dedup.ensures.filtered
