use Rattle.std.proofs.Common.{rules, tests}
use Rattle.std.proofs.lemmas.Iterator.Search.{find_from_yields_List}
use Rattle.std.proofs.lemmas.Iterator.{YieldsList-from_slice}
use Rattle.module_words.specs.subcommands.Options.{is_option_name}
use Rattle.module_words.specs.subcommands.Views.{option_view}
use Rattle.module_words.specs.declared.subcommands.options.OptionName.{OptionName}
use Rattle.module_words.proofs.subcommands.RowLemmas.{find_seen}
use Rattle.module_words.proofs.subcommands.options.named.Goals as goal

pub returns : goal.returns
returns c =
    find_seen (is_option_name c.args.word.now) option_view c.options_of.result.now _ c.find.result
    (find_from_yields_List (λ (x : OptionName). is_option_name c.args.word.now (option_view x)) _ _ c.find.result c.find.ensures.ran
    (YieldsList-from_slice c.options_of.result.now cc) (λ x b q k. search (rules, tests)))
    c.options_of.ensures
