use Rattle.std.proofs.Common.{[], ◌∷◌}
use Rattle.std.proofs.lemmas.Str.Pattern.{contains_text}
use Rattle.tclforms.proofs.variables.Colons.{colons_by}
use Rattle.tclforms.proofs.variables.location.has_colons.Goals as goal

pub returns : goal.returns
returns c = colons_by c.contains.result c.args.name.now (contains_text c.contains.result (58 ∷ 58 ∷ []) c.args.name.now c.contains.ensures.cases)
