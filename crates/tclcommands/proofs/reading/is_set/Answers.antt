use Rattle.std.proofs.Common.{sym, ◌∙◌}
use Rattle.tclforms.specs.variables.Locations.{scalar_view}
use Rattle.tclcommands.proofs.Insides.{env_set, value_set}
use Rattle.tclcommands.proofs.reading.is_set.Goals as goal

pub returns-then-is_env : goal.returns-then-is_env
returns-then-is_env c k = env_set c.args.variables.now k (scalar_view c.args.variable) (sym c.is_env.ensures ∙ c.if-is_env.true)

pub returns : goal.returns
returns c k = value_set c.args.variables.now k (scalar_view c.args.variable) _ _ (sym c.is_env.ensures ∙ c.if-is_env.false) c.get.ensures c.is_some.ensures
