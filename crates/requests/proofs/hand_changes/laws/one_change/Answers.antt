use Rattle.requests.proofs.hand_changes.OneChange.{one_change}
use Rattle.requests.proofs.hand_changes.laws.one_change.Goals as goal

pub returns : goal.returns
returns c = one_change c.steps.ensures
