use Rattle.requests.proofs.hand_changes.Exactness.{no_more}
use Rattle.requests.proofs.hand_changes.laws.no_more.Goals as goal

pub returns : goal.returns
returns c = no_more
