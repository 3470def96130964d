use Rattle.std.proofs.Common.{◌∙◌, map, rules, string_bytes}
use Rattle.std.specs.List.{list_any}
use Rattle.std.proofs.lemmas.Iterator.{YieldsList-from_slice}
use Rattle.std.proofs.lemmas.Iterator.Search.{any_from_yields_List}
use Rattle.envvars.specs.Texts.{Text}
use Rattle.modulename.specs.ModuleName.{means}
use Rattle.modulefile_run.proofs.ListLemmas.{any_text}
use Rattle.modulefile_run.proofs.questions.is_any_meant.Goals as goal
use borrow.Author.Tests.{tests}

pub returns : goal.returns
returns c =
    any_from_yields_List (λ x. list_any (means (string_bytes x)) (map string_bytes c.args.loaded.now)) _ _ _
    c.any.ensures.ran (YieldsList-from_slice c.args.names.now cc) (λ x b q k. search (rules, tests))
    ∙ any_text (λ (name : Text). list_any (means name) (map string_bytes c.args.loaded.now)) c.args.names.now
