use Rattle.std.proofs.Common.{ap, ◌∙◌}
use Rattle.std.specs.Option.{option_map}
use Rattle.tclforms.specs.variables.Views.{procedure_view}
use Rattle.tclforms.proofs.variables.Frames.{lookup_named, map_copied}
use Rattle.tclforms.proofs.variables.variables.Variables.procedure.Goals as goal

pub returns : goal.returns
returns c = rw (← c.self.view_is) (map_copied (λ p. procedure_view p.value) c.get.result ∙ ap
    (option_map (λ p. procedure_view p.value)) c.get.ensures.value
    ∙ lookup_named (λ p. procedure_view p.value) c.self.inside.procedures.entries c.args.name.now)
