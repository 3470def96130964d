use Rattle.envvars.proofs.TableLemmas.{none_found}
use Rattle.envvars.proofs.table.found.Goals as goal

pub returns-then-is_empty : goal.returns-then-is_empty
returns-then-is_empty c = none_found c.args.table.now c.args.name.now (c.is_empty.ensures.0 c.if-is_empty.true)
