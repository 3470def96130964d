use Rattle.std.proofs.Common.{ap, ◌∙◌}
use Rattle.std.specs.FinMap as finite
use Rattle.envvars.specs.Environment.{Environment}
use Rattle.envvars.specs.Given.{variables_of}
use Rattle.envvars.specs.Tables.{written_over}
use Rattle.envvars.proofs.TableLemmas.{removed_over}
use Rattle.envvars.proofs.env.Env.unset.Goals as goal

pub returns : goal.returns
returns c =
    ap (λ (e : Environment). written_over e c.swap_remove.new.self.entries) c.unset.ensures.unset
    ∙ removed_over (variables_of c.self.inside.given) c.self.inside.written c.swap_remove.new.self c.args.name.now c.swap_remove.ensures.updates
    ∙ ap (λ e. finite.remove e c.args.name.now) c.self.view_is
