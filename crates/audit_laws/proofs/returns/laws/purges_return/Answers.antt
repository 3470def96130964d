use Rattle.audit_laws.proofs.returns.SiteLaws.{purges_return, purges_end_as_at_start}
use Rattle.audit_laws.proofs.returns.laws.purges_return.Goals as goal

pub returns-clause-back : goal.returns-clause-back
returns-clause-back c = purges_return (record {
  one = c.files.ensures.one;
  allows = c.files.ensures.allowed;
  outcome = c.outcomes.ensures.one;
  tested = c.undone.ensures;
  preserve = c.steps.ensures.kept;
})

pub returns-clause-as_at_start : goal.returns-clause-as_at_start
returns-clause-as_at_start c = purges_end_as_at_start (record {
  one = c.files.ensures.one;
  allows = c.files.ensures.allowed;
  outcome = c.outcomes.ensures.one;
  tested = c.undone.ensures;
  preserve = c.steps.ensures.kept;
})
