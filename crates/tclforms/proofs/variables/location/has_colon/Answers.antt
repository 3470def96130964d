use Rattle.std.proofs.Common.{◌==◌, rules, tests}
use Rattle.std.proofs.lemmas.Iterator.{YieldsList-from_slice}
use Rattle.std.proofs.lemmas.Iterator.Search.{any_from_yields_List}
use Rattle.tclforms.proofs.variables.location.has_colon.Goals as goal

pub returns : goal.returns
returns c = any_from_yields_List (λ b. b == 58) _ _ c.any.result c.any.ensures.ran (YieldsList-from_slice c.args.name.now cc) (λ x b q k. search (rules, tests))
