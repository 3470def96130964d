use Rattle.reversal.proofs.Requests.{requests_return}
use Rattle.reversal.proofs.laws.requests.Goals as goal

pub returns : goal.returns
returns c = requests_return
