use Rattle.shelltext.proofs.Together.{chain}
use Rattle.shelltext.proofs.laws.differences_make.Goals as goal

pub returns : goal.returns
returns c = chain c.difference_makes.ensures
