use Rattle.reversal.proofs.Alike.{unloads_are_alike}
use Rattle.reversal.proofs.laws.unloads.Goals as goal

pub returns : goal.returns
returns c = unloads_are_alike
