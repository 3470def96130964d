use Rattle.std.proofs.Common.{◌∙◌, ap, List, subst}
use Rattle.envvars.specs.Texts.{Text, slice_texts}
use Rattle.envvars.specs.Reasons.{Edits}
use Rattle.envstate.specs.paths.PathVariables.{added_path}
use Rattle.modulefile_run.proofs.effects.add.Goals as goal

pub returns-clause-edits : goal.returns-clause-edits
returns-clause-edits g c =
    subst (λ (xs : List Text). Edits c.add_path.result (g.V.Vars.vars c.args.env.now) (g.V.Vars.vars c.add_path.new.env)
    (added_path (g.V.Vars.vars c.args.env.now) c.args.var.now c.args.delim.character xs c.args.end))
    (ap slice_texts c.as_slice.ensures.value ∙ c.in_ok-slices.ensures) c.add_path.ensures.edits
