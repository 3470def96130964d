use Rattle.std.proofs.Common.{nat_eq, string_bytes, String, ◌∙◌, rules, tests}
use Rattle.std.specs.List.{starts_with}
use Rattle.std.specs.declared.alloc.Global.{Global}
use Rattle.std.proofs.lemmas.Iterator.{YieldsList-from_slice}
use Rattle.std.proofs.lemmas.Iterator.Search.{any_from_yields_List}
use Rattle.search.proofs.SelectionLemmas.{any_of_bytes}
use Rattle.search.proofs.selections.begins_with_one.Goals as goal

pub returns : goal.returns
returns c =
    any_from_yields_List (λ (text : String Global). starts_with nat_eq c.args.name.now (string_bytes text)) _ _ c.any.result
    c.any.ensures.ran (YieldsList-from_slice c.args.texts.now cc) (λ x b q k. search (rules, tests))
    ∙ any_of_bytes (λ t. starts_with nat_eq c.args.name.now t) c.args.texts.now
