use Rattle.module_restore.proofs.forgetting.LawLemmas.{keeps_order, one_forgetting, others_loaded, variable_stays}
use Rattle.module_restore.proofs.forgetting.laws.forgetting.Goals as goal

pub returns-clause-order : goal.returns-clause-order
returns-clause-order c = keeps_order

pub returns-clause-loaded : goal.returns-clause-loaded
returns-clause-loaded c = others_loaded

pub returns-clause-variables : goal.returns-clause-variables
returns-clause-variables c = variable_stays

pub returns-clause-one : goal.returns-clause-one
returns-clause-one c = one_forgetting
