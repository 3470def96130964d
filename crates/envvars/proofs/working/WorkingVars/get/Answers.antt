use Rattle.std.proofs.Common.{refl, ap, Some, None}
use Rattle.std.specs.Option.{option_map}
use Rattle.envvars.specs.Edited.{Edited}
use Rattle.envvars.proofs.TableLemmas.{found_over}
use Rattle.envvars.proofs.working.WorkingVars.get.Goals as goal

pub returns-in-Some : goal.returns-in-Some
returns-in-Some g c = found_over (g.B.Vars.vars c.self.inside.old.now) c.args.self.now.new c.self.inside.touched
    c.args.name.now (Some (option_map (λ x. x.now) c.in-Some.value)) _ (ap (λ (e : Edited). e.new) c.self.view_is)
    c.in-Some.ensures refl

pub returns-in-None : goal.returns-in-None
returns-in-None g c = found_over (g.B.Vars.vars c.self.inside.old.now) c.args.self.now.new c.self.inside.touched
    c.args.name.now None _ (ap (λ (e : Edited). e.new) c.self.view_is) c.in-None.ensures c.get.ensures
