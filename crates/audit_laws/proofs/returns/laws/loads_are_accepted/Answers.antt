use Rattle.audit_laws.proofs.returns.Loads.{loads_are_accepted, reads_are_of_start}
use Rattle.audit_laws.proofs.returns.laws.loads_are_accepted.Goals as goal

pub returns-clause-accepted : goal.returns-clause-accepted
returns-clause-accepted c = loads_are_accepted (record {
  some = c.files.ensures.some;
  allows = c.files.ensures.allowed;
  effects = c.files.ensures.have_effects;
  outcome = c.outcomes.ensures.one;
  tested = c.undone.ensures;
})

pub returns-clause-reads : goal.returns-clause-reads
returns-clause-reads c = reads_are_of_start c.files.ensures.one
