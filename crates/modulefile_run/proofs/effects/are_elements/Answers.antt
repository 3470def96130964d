use Rattle.std.proofs.Common.{◌∙◌, sym, rules, string_bytes}
use Rattle.std.proofs.lemmas.Iterator.{YieldsList-from_slice}
use Rattle.std.proofs.lemmas.Iterator.Search.{all_from_yields_List}
use Rattle.std.proofs.lemmas.List.Folds.{list_all-map}
use Rattle.envstate.specs.paths.PathVariables.{is_element}
use Rattle.modulefile_run.proofs.effects.are_elements.Goals as goal
use borrow.Author.Tests.{tests}

pub returns : goal.returns
returns c =
    all_from_yields_List (λ x. is_element c.args.delim.character (string_bytes x)) _ _ _ c.all.ensures.ran (YieldsList-from_slice c.args.texts.now cc) (λ x b q k. search (rules, tests))
    ∙ sym (list_all-map (is_element c.args.delim.character) string_bytes c.args.texts.now)
