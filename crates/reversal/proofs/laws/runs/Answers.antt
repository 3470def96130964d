use Rattle.reversal.proofs.WholeRuns.{runs_return, each_on_the_way}
use Rattle.reversal.proofs.laws.runs.Goals as goal

pub returns-clause-returned : goal.returns-clause-returned
returns-clause-returned c = runs_return

pub returns-clause-each : goal.returns-clause-each
returns-clause-each c = each_on_the_way
