use Rattle.std.proofs.Common.{◌≡◌, map, take}
use Rattle.envvars.specs.Texts.{texts_in}
use Rattle.module_words.specs.subcommands.Views.{option_view}
use Rattle.module_reports.proofs.completions.names.option_names.Given as goal

abbrev pub invariant-loop-row : goal.invariant-loop-row
invariant-loop-row l =
    texts_in l.names ≡ map (λ row. row.0) (map option_view (take l.row-index l.rows))
