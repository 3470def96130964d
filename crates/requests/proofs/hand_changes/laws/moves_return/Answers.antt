use Rattle.requests.proofs.hand_changes.Sessions.{moves_return}
use Rattle.requests.proofs.hand_changes.laws.moves_return.Goals as goal

pub returns : goal.returns
returns c = moves_return c.runs.ensures.returned c.steps.ensures c.one_change.ensures
