use Rattle.std.proofs.Common.{rules, tests}
use Rattle.std.proofs.lemmas.Iterator.Search.{find_from_yields_List}
use Rattle.std.proofs.lemmas.Iterator.{YieldsList-from_slice}
use Rattle.module_words.specs.subcommands.Meanings.{is_named}
use Rattle.module_words.specs.subcommands.Views.{row_view}
use Rattle.module_words.specs.declared.subcommands.table.SubcommandName.{SubcommandName}
use Rattle.module_words.proofs.subcommands.RowLemmas.{find_seen}
use Rattle.module_words.proofs.subcommands.meaning.named.Goals as goal

pub returns : goal.returns
returns c =
    find_seen (is_named c.args.word.now) row_view c.subcommand_names.result.now _ c.find.result
    (find_from_yields_List (λ (x : SubcommandName). is_named c.args.word.now (row_view x)) _ _ c.find.result c.find.ensures.ran
    (YieldsList-from_slice c.subcommand_names.result.now cc) (λ x b q k. search (rules, tests)))
    c.subcommand_names.ensures
