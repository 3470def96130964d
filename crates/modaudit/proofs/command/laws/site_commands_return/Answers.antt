use Rattle.modaudit.proofs.command.SiteCommandLemmas.{site_shells_return}
use Rattle.modaudit.proofs.command.laws.site_commands_return.Goals as goal

pub returns : goal.returns
returns c =
    site_shells_return c.steps.ensures.none c.command_returns.ensures c.one_effect.ensures c.difference_makes.ensures c.one_change.ensures
    c.changes_agree.ensures.reads
