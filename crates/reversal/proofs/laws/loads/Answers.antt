use Rattle.reversal.proofs.Loads.{loads_make}
use Rattle.reversal.proofs.laws.loads.Goals as goal

pub returns : goal.returns
returns c = loads_make
