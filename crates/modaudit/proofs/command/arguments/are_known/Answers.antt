use Rattle.std.proofs.Common.{rules, tests, string_bytes, String, Global, sym, ◌∙◌}
use Rattle.std.proofs.lemmas.Iterator.Search.{all_from_yields_List}
use Rattle.std.proofs.lemmas.Iterator.{YieldsList-from_slice}
use Rattle.std.proofs.lemmas.List.Folds.{list_all-map}
use Rattle.modaudit.specs.command.Arguments.{is_known}
use Rattle.modaudit.proofs.command.arguments.are_known.Goals as goal

pub returns : goal.returns
returns c =
    all_from_yields_List (λ (s : String Global). is_known (string_bytes s)) _ _ c.all.result c.all.ensures.ran
    (YieldsList-from_slice c.args.options.now cc) (λ x b q k. search (rules, tests))
    ∙ sym (list_all-map is_known string_bytes c.args.options.now)
