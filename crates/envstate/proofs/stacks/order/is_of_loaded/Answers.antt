use Rattle.std.proofs.Common.{rules, tests, sym, ap, ◌∙◌, string_bytes, bytes_eq, Bor}
use Rattle.std.specs.Option.{option_map}
use Rattle.std.proofs.lemmas.Iterator.Search.{any_from_yields_List}
use Rattle.std.proofs.lemmas.Iterator.{YieldsList-from_slice}
use Rattle.envvars.specs.Texts.{Text, slice_texts}
use Rattle.envvars.proofs.TextLemmas.{has-slice_texts}
use Rattle.envstate.specs.stacks.StackVariables.{is_loaded_owner}
use Rattle.envstate.proofs.stacks.order.is_of_loaded.Goals as goal

pub returns-in-Some : goal.returns-in-Some
returns-in-Some c =
    any_from_yields_List (λ (y : Bor Text). bytes_eq y.now (string_bytes c.in-Some.owner)) _ _ c.any.result
    c.any.ensures.ran (YieldsList-from_slice c.args.loaded.now cc) (λ x b q k. search (rules, tests))
    ∙ has-slice_texts (string_bytes c.in-Some.owner) c.args.loaded.now
    ∙ sym (ap (λ o. is_loaded_owner (slice_texts c.args.loaded.now) (option_map string_bytes o)) c.in-Some.is)
