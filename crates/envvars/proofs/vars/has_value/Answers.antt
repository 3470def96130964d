use Rattle.std.proofs.Common.{rules, tests}
use Rattle.std.specs.Option.{option_map}
use Rattle.envvars.specs.Environment.{lookup}
use Rattle.envvars.proofs.ChangeLemmas.{same_value_is}
use Rattle.envvars.proofs.vars.has_value.Goals as goal

pub returns : goal.returns
returns g c =
    same_value_is _ (lookup (g.V.Vars.vars c.args.env.now) c.args.name.now) (option_map (λ x. x.now) c.args.value) (search (rules, tests))
