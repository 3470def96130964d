use Rattle.modulecmd.proofs.RunLemmas.{commands_return}
use Rattle.modulecmd.proofs.laws.commands_return.Goals as goal

pub returns : goal.returns
returns c = commands_return c.runs.ensures.returned c.command_returns.ensures c.one_effect.ensures c.difference_makes.ensures c.one_change.ensures
