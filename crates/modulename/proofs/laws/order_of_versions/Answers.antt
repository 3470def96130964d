use Rattle.modulename.proofs.OrderLemmas.{total, equal, has_one_greatest}
use Rattle.modulename.proofs.laws.order_of_versions.Goals as goal

pub returns-clause-total : goal.returns-clause-total
returns-clause-total c = total

pub returns-clause-same : goal.returns-clause-same
returns-clause-same c = equal

pub returns-clause-greatest : goal.returns-clause-greatest
returns-clause-greatest c = has_one_greatest
