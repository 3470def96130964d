use Rattle.modulecmd.proofs.CommandLemmas.{does_once}
use Rattle.modulecmd.proofs.laws.one_command.Goals as goal

pub returns : goal.returns
returns c = does_once c.outcomes.ensures.one
