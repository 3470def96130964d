use Rattle.std.proofs.Common.{rules, tests, ap, sym, ◌∙◌}
use Rattle.std.specs.List.{list_all}
use Rattle.std.proofs.lemmas.Iterator.Search.{all_from_yields_List}
use Rattle.std.proofs.lemmas.Iterator.{YieldsList-from_slice}
use Rattle.std.proofs.lemmas.List.Folds.{list_all-map}
use Rattle.module_words.specs.subcommands.Meanings.{leaves}
use Rattle.module_words.specs.subcommands.Views.{row_view}
use Rattle.module_words.specs.declared.subcommands.table.SubcommandName.{SubcommandName}
use Rattle.module_words.proofs.subcommands.meaning.is_alone.Goals as goal

pub returns : goal.returns
returns c =
    all_from_yields_List (λ (x : SubcommandName). leaves c.args.word.now c.args.subcommand (row_view x)) _ _
    c.all.result c.all.ensures.ran (YieldsList-from_slice c.subcommand_names.result.now cc) (λ x b q k. search (rules, tests))
    ∙ (sym (list_all-map (leaves c.args.word.now c.args.subcommand) row_view c.subcommand_names.result.now)
    ∙ ap (list_all (leaves c.args.word.now c.args.subcommand)) c.subcommand_names.ensures)
