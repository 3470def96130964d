use Rattle.modaudit.proofs.command.WayBackLemmas.{site_sessions_layer, site_way_back_is_open}
use Rattle.modaudit.proofs.command.laws.site_way_back_is_open.Goals as goal

pub returns-clause-layered : goal.returns-clause-layered
returns-clause-layered c =
    site_sessions_layer c.steps.ensures.none c.command_returns.ensures c.one_effect.ensures c.difference_makes.ensures c.one_change.ensures
    c.changes_agree.ensures.reads

pub returns-clause-open : goal.returns-clause-open
returns-clause-open c =
    site_way_back_is_open
    (site_sessions_layer c.steps.ensures.none c.command_returns.ensures c.one_effect.ensures c.difference_makes.ensures c.one_change.ensures
    c.changes_agree.ensures.reads)
    c.one_effect.ensures c.difference_makes.ensures c.some_outcome.ensures c.purges_return.ensures.back c.purges_return.ensures.as_at_start c.unloads_are_accepted.ensures.all
