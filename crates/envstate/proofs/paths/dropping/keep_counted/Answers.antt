use Rattle.std.proofs.Common.{ap, ◌∙◌, rules}
use Rattle.std.specs.Prelude.{is_some}
use Rattle.std.proofs.lemmas.Fn.{filter_same}
use Rattle.envvars.specs.Texts.{slice_texts}
use Rattle.envstate.specs.paths.Tables.{counter_in}
use Rattle.envvars.proofs.TextLemmas.{slice_texts-filter}
use Rattle.envstate.proofs.paths.dropping.keep_counted.Goals as goal

pub returns : goal.returns
returns c =
    ap slice_texts (filter_same _ (λ y. is_some (counter_in c.args.counters.now y.now)) _ (λ x b g k. search rules) _ _ c.retain.ensures.filtered)
    ∙ slice_texts-filter (λ y. is_some (counter_in c.args.counters.now y)) c.args.elements.now.items
