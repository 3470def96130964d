use Rattle.audit_certificate.proofs.Runs.{runs_stand}
use Rattle.audit_certificate.proofs.laws.runs.Goals as goal

pub returns : goal.returns
returns c = runs_stand c.runs.ensures.returned c.steps.ensures
