use Rattle.envvars.proofs.DifferenceLemmas.{distinct_names}
use Rattle.envvars.proofs.difference.edits.Goals as goal

pub returns-clause-distinct : goal.returns-clause-distinct
returns-clause-distinct c = distinct_names c.args.table.entries c.len.ensures.unique
