use Rattle.lookup.specs.OneResult as Laws
use Rattle.lookup.proofs.laws.one_result.Goals as goal

pub returns : goal.returns
returns c = Laws.one_result
