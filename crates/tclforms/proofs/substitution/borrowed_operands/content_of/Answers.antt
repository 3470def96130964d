use Rattle.std.proofs.Common.{sym, ◌∙◌}
use Rattle.tclforms.specs.variables.Locations.{scalar_view}
use Rattle.tclforms.proofs.substitution.AtHand.{value_found}
use Rattle.tclforms.proofs.substitution.borrowed_operands.content_of.Goals as goal

pub returns : goal.returns
returns c = value_found _ (scalar_view c.args.variable) c.args.variables.now (sym c.is_env.ensures ∙ c.if-is_env.false) c.content.ensures
