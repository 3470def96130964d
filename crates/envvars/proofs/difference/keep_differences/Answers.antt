use Rattle.std.proofs.Common.{map, ap, ◌∙◌, rules}
use Rattle.std.proofs.lemmas.Fn.{filter_same}
use Rattle.envvars.specs.Changes.{new_value_of}
use Rattle.envvars.specs.Tables.{differs_from}
use Rattle.envvars.proofs.DifferenceLemmas.{kept_changes}
use Rattle.envvars.proofs.difference.keep_differences.Goals as goal

pub returns : goal.returns
returns g c =
    let p = differs_from (g.B.Vars.vars c.args.old.now) in
    ap (map new_value_of) (filter_same _ (λ y. p (new_value_of y)) _ (λ x b h k. search rules) _ _ c.retain.ensures.filtered) ∙ kept_changes p c.args.changes.now.items
