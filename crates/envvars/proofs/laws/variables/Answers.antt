use Rattle.envvars.proofs.EnvLemmas.{lookup-with_value, same_environment}
use Rattle.envvars.proofs.laws.variables.Goals as goal

pub returns-clause-written : goal.returns-clause-written
returns-clause-written c = lookup-with_value

pub returns-clause-same : goal.returns-clause-same
returns-clause-same c = same_environment
