use Rattle.modulecmd.proofs.RunLemmas.{shells_and_hands_return, commands_are_events}
use Rattle.modulecmd.proofs.laws.commands_and_hands_return.Goals as goal

pub returns-clause-returned : goal.returns-clause-returned
returns-clause-returned c =
    shells_and_hands_return c.runs.ensures.returned c.command_returns.ensures c.one_effect.ensures c.difference_makes.ensures c.one_change.ensures

pub returns-clause-alone : goal.returns-clause-alone
returns-clause-alone c = commands_are_events
