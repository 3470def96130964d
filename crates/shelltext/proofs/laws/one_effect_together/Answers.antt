use Rattle.shelltext.proofs.Together.{one_together}
use Rattle.shelltext.proofs.laws.one_effect_together.Goals as goal

pub returns : goal.returns
returns c = one_together c.one_effect.ensures
