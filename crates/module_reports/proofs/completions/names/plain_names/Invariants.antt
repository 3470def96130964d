use Rattle.std.proofs.Common.{◌≡◌, ◌++◌, drop, map}
use Rattle.envvars.specs.Texts.{texts_in}
use Rattle.module_words.specs.subcommands.Views.{row_view}
use Rattle.module_reports.specs.completions.Names.{plain}
use Rattle.module_reports.proofs.completions.names.plain_names.Given as goal

abbrev pub invariant-loop-row : goal.invariant-loop-row
invariant-loop-row l =
    texts_in l.names ++ plain (map (λ row. row.0) (map row_view (drop l.row-index l.rows)))
    ≡ plain (map (λ row. row.0) (map row_view l.rows))
