use Rattle.audit_certificate.proofs.Moments.{agreeing_begins}
use Rattle.audit_certificate.proofs.Runs.{moves_preserve, none_is_layered}
use Rattle.audit_certificate.proofs.laws.steps.Goals as goal

pub returns-clause-kept : goal.returns-clause-kept
returns-clause-kept c = moves_preserve c.runs.ensures.returned c.steps.ensures

pub returns-clause-none : goal.returns-clause-none
returns-clause-none c = none_is_layered c.runs.ensures.returned

pub returns-clause-begins : goal.returns-clause-begins
returns-clause-begins c = agreeing_begins
