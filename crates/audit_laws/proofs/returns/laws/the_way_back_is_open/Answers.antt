use Rattle.audit_laws.proofs.returns.SiteLaws.{purges_return}
use Rattle.audit_laws.proofs.returns.Sessions.{sessions_are_layered, the_way_back_is_open, the_way_back_is_there}
use Rattle.audit_laws.proofs.returns.laws.the_way_back_is_open.Goals as goal

pub returns-clause-layered : goal.returns-clause-layered
returns-clause-layered c = sessions_are_layered c.steps.ensures.none c.command_returns.ensures

pub returns-clause-purge : goal.returns-clause-purge
returns-clause-purge c = the_way_back_is_open (sessions_are_layered c.steps.ensures.none c.command_returns.ensures) (purges_return (record {
  one = c.files.ensures.one;
  allows = c.files.ensures.allowed;
  outcome = c.outcomes.ensures.one;
  tested = c.undone.ensures;
  preserve = c.steps.ensures.kept;
}))

pub returns-clause-there : goal.returns-clause-there
returns-clause-there c = the_way_back_is_there c.some_outcome.ensures (the_way_back_is_open (sessions_are_layered c.steps.ensures.none c.command_returns.ensures) (purges_return (record {
  one = c.files.ensures.one;
  allows = c.files.ensures.allowed;
  outcome = c.outcomes.ensures.one;
  tested = c.undone.ensures;
  preserve = c.steps.ensures.kept;
})))
