use Rattle.std.proofs.Common.{Bool, not, ap, ◌∙◌, rules}
use Rattle.std.proofs.lemmas.Fn.{filter_same}
use Rattle.envvars.specs.Texts.{Text, slice_texts}
use Rattle.envvars.specs.Environment.{lookup}
use Rattle.envvars.specs.Changes.{same_value}
use Rattle.envvars.proofs.TextLemmas.{slice_texts-filter}
use Rattle.envvars.proofs.difference.keep_differing.Goals as goal

pub returns : goal.returns
returns g c =
    let p : Text → Bool = λ n. not (same_value (lookup (g.B.Vars.vars c.args.old.now) n) (lookup (g.V.Vars.vars c.args.new.now) n)) in
    ap slice_texts (filter_same _ (λ y. p y.now) _ (λ x b h k. search rules) _ _ c.retain.ensures.filtered) ∙ slice_texts-filter p c.args.names.now.items
