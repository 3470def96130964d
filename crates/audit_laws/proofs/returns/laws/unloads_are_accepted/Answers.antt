use Rattle.audit_laws.proofs.returns.SiteLaws.{unloads_end, unloads_are_accepted, named_unloads_are_accepted, unloads_of_all_return}
use Rattle.audit_laws.proofs.returns.laws.unloads_are_accepted.Goals as goal

pub returns-clause-end : goal.returns-clause-end
returns-clause-end c = unloads_end (record {
  one = c.files.ensures.one;
  allows = c.files.ensures.allowed;
  outcome = c.outcomes.ensures.one;
  tested = c.undone.ensures;
  preserve = c.steps.ensures.kept;
})

pub returns-clause-accepted : goal.returns-clause-accepted
returns-clause-accepted c = unloads_are_accepted (record {
  one = c.files.ensures.one;
  allows = c.files.ensures.allowed;
  outcome = c.outcomes.ensures.one;
  tested = c.undone.ensures;
  preserve = c.steps.ensures.kept;
})

pub returns-clause-named : goal.returns-clause-named
returns-clause-named c = named_unloads_are_accepted (record {
  one = c.files.ensures.one;
  allows = c.files.ensures.allowed;
  outcome = c.outcomes.ensures.one;
  tested = c.undone.ensures;
  preserve = c.steps.ensures.kept;
})

pub returns-clause-all : goal.returns-clause-all
returns-clause-all c = unloads_of_all_return (record {
  one = c.files.ensures.one;
  allows = c.files.ensures.allowed;
  outcome = c.outcomes.ensures.one;
  tested = c.undone.ensures;
  preserve = c.steps.ensures.kept;
})
