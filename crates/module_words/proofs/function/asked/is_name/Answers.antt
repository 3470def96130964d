use Rattle.std.proofs.Common.{rules, tests, ap, ◌∙◌}
use Rattle.std.specs.List.{list_any}
use Rattle.std.proofs.lemmas.Iterator.Search.{any_from_yields_List}
use Rattle.std.proofs.lemmas.Iterator.{YieldsList-from_slice}
use Rattle.module_words.specs.subcommands.Meanings.{is_named}
use Rattle.module_words.specs.subcommands.Views.{row_view}
use Rattle.module_words.specs.declared.subcommands.table.SubcommandName.{SubcommandName}
use Rattle.module_words.proofs.function.ListLemmas.{any_seen}
use Rattle.module_words.proofs.function.asked.is_name.Goals as goal

pub returns : goal.returns
returns c =
    any_from_yields_List (λ (x : SubcommandName). is_named c.args.word.now (row_view x)) _ _ c.any.result
    c.any.ensures.ran (YieldsList-from_slice c.subcommand_names.result.now cc) (λ x b q k. search (rules, tests))
    ∙ (any_seen (is_named c.args.word.now) row_view c.subcommand_names.result.now
    ∙ ap (list_any (is_named c.args.word.now)) c.subcommand_names.ensures)
