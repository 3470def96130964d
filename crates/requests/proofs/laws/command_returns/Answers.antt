use Rattle.requests.proofs.Returned.{commands_return}
use Rattle.requests.proofs.laws.command_returns.Goals as goal

pub returns : goal.returns
returns c = commands_return c.outcomes.ensures.reach c.steps.ensures
