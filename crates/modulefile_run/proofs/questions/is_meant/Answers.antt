use Rattle.std.proofs.Common.{◌∙◌, rules, string_bytes}
use Rattle.std.proofs.lemmas.Iterator.{YieldsList-from_slice}
use Rattle.std.proofs.lemmas.Iterator.Search.{any_from_yields_List}
use Rattle.modulename.specs.ModuleName.{means}
use Rattle.modulefile_run.proofs.ListLemmas.{any_text}
use Rattle.modulefile_run.proofs.questions.is_meant.Goals as goal
use borrow.Author.Tests.{tests}

pub returns : goal.returns
returns c =
    any_from_yields_List (λ x. means c.args.name.now (string_bytes x)) _ _ _ c.any.ensures.ran (YieldsList-from_slice c.args.loaded.now cc) (λ x b q k. search (rules, tests))
    ∙ any_text (means c.args.name.now) c.args.loaded.now
