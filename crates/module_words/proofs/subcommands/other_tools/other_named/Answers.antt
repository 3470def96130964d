use Rattle.std.proofs.Common.{rules, tests}
use Rattle.std.proofs.lemmas.Iterator.Search.{find_from_yields_List}
use Rattle.std.proofs.lemmas.Iterator.{YieldsList-from_slice}
use Rattle.module_words.specs.subcommands.OtherOptions.{is_other_name}
use Rattle.module_words.specs.subcommands.Views.{other_view}
use Rattle.module_words.specs.declared.subcommands.other_tools.OtherOption.{OtherOption}
use Rattle.module_words.proofs.subcommands.RowLemmas.{find_seen}
use Rattle.module_words.proofs.subcommands.other_tools.other_named.Goals as goal

pub returns : goal.returns
returns c =
    find_seen (is_other_name c.args.word.now) other_view c.other_rows.result.now _ c.find.result
    (find_from_yields_List (λ (x : OtherOption). is_other_name c.args.word.now (other_view x)) _ _ c.find.result c.find.ensures.ran
    (YieldsList-from_slice c.other_rows.result.now cc) (λ x b q k. search (rules, tests)))
    c.other_rows.ensures
