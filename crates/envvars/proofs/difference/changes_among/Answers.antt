use Rattle.std.proofs.Common.{ap, ◌∙◌}
use Rattle.envvars.specs.Texts.{has, slice_texts}
use Rattle.envvars.proofs.ChangeLemmas.{all_changes}
use Rattle.envvars.proofs.difference.changes_among.Goals as goal

pub returns : goal.returns
returns g c =
    all_changes c.changes_to.result (g.B.Vars.vars c.args.old.now) (g.V.Vars.vars c.args.new.now)
    (slice_texts c.args.names.items) c.sorted_once-names.result.items c.as_slice.result.now c.as_slice.ensures.value
    c.requires
    c.sorted_once-names.ensures.ordered (λ q. c.sorted_once-names.ensures.same q ∙ ap (has q) c.keep_differing.ensures) c.changes_to.ensures
