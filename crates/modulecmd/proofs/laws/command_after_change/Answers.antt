use Rattle.modulecmd.proofs.RunLemmas.{command_after_change}
use Rattle.modulecmd.proofs.laws.command_after_change.Goals as goal

pub returns : goal.returns
returns c = command_after_change c.one_change.ensures
