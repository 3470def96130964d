use Rattle.requests.proofs.hand_changes.Exactness.{one_start}
use Rattle.requests.proofs.hand_changes.laws.one_start.Goals as goal

pub returns : goal.returns
returns c = one_start
