use Rattle.audit_laws.proofs.returns.Switches.{switches_are_accepted}
use Rattle.audit_laws.proofs.returns.laws.switches_are_accepted.Goals as goal

pub returns : goal.returns
returns c = switches_are_accepted (record {
  some = c.files.ensures.some;
  allows = c.files.ensures.allowed;
  effects = c.files.ensures.have_effects;
  outcome = c.outcomes.ensures.one;
  tested = c.undone.ensures;
}) c.files.ensures.one c.steps.ensures.kept
