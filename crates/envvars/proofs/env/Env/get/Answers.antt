use Rattle.std.proofs.Common.{refl, Some, None}
use Rattle.std.specs.Option.{option_map}
use Rattle.envvars.specs.Given.{variables_of}
use Rattle.envvars.proofs.TableLemmas.{found_over}
use Rattle.envvars.proofs.env.Env.get.Goals as goal

pub returns-in-Some : goal.returns-in-Some
returns-in-Some c = found_over (variables_of c.self.inside.given) c.args.self.now c.self.inside.written c.args.name.now
    (Some (option_map (λ x. x.now) c.in-Some.value)) _ c.self.view_is c.in-Some.ensures refl

pub returns-in-None : goal.returns-in-None
returns-in-None c = found_over (variables_of c.self.inside.given) c.args.self.now c.self.inside.written c.args.name.now None _ c.self.view_is c.in-None.ensures c.get.ensures
