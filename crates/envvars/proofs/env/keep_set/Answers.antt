use Rattle.std.proofs.Common.{Bool, ap, ◌∙◌, rules}
use Rattle.std.specs.Prelude.{is_some}
use Rattle.std.proofs.lemmas.Fn.{filter_same}
use Rattle.envvars.specs.Texts.{Text, slice_texts}
use Rattle.envvars.specs.Environment.{lookup}
use Rattle.envvars.proofs.TextLemmas.{slice_texts-filter}
use Rattle.envvars.proofs.env.keep_set.Goals as goal

pub returns : goal.returns
returns c =
    let p : Text → Bool = λ n. is_some (lookup c.args.env.now n) in
    ap slice_texts (filter_same _ (λ y. p y.now) _ (λ x b h k. search rules) _ _ c.retain.ensures.filtered) ∙ slice_texts-filter p c.args.names.now.items
