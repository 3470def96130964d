use Rattle.modaudit.proofs.command.SiteCommandLemmas.{site_shells_and_hands_return, site_commands_are_events, readless_are_left}
use Rattle.modaudit.proofs.command.laws.site_commands_and_hands_return.Goals as goal

pub returns-clause-returned : goal.returns-clause-returned
returns-clause-returned c =
    site_shells_and_hands_return c.steps.ensures.none c.command_returns.ensures c.one_effect.ensures c.difference_makes.ensures
    c.one_change.ensures c.changes_agree.ensures.reads

pub returns-clause-alone : goal.returns-clause-alone
returns-clause-alone c = site_commands_are_events

pub returns-clause-readless : goal.returns-clause-readless
returns-clause-readless c = readless_are_left
