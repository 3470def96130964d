use Rattle.requests.proofs.SomeStep.{some_step}
use Rattle.requests.proofs.laws.some_outcome.Goals as goal

pub returns : goal.returns
returns c = some_step c.files.ensures.some c.some_result.ensures
