-- Parts of a report, with and without names.
use Rattle.std.proofs.Common.{◌≡◌, ◌<◌, List, [], ◌∷◌, ◌++◌, flat_map, map, length, refl, arith}
use Rattle.message.specs.Messages.{Text}
use Rattle.terminal.specs.text.Tables.{table_text}
use Rattle.module_reports.specs.listings.Reports.{cell_of, columns_text, heading_line, lines_text, name_line, shown_line}
use Rattle.module_reports.specs.listings.Views.{name_view}
use Rattle.module_reports.specs.declared.listings.layout.ReportedName.{ReportedName}
use Rattle.module_reports.specs.declared.listings.layout.Terminal.{Terminal}

-- without a name there is nothing
pub no_columns : (terminal : Terminal) (heading : Text) (names : List ReportedName) → length names ≡ 0
    → columns_text terminal (heading, map name_view names) ≡ []
no_columns terminal heading [] h = refl
no_columns terminal heading (n ∷ ns) h = absurd (omega (arith, h))

pub no_lines : (heading : Text) (names : List ReportedName) → length names ≡ 0
    → lines_text (heading, map name_view names) ≡ []
no_lines heading [] h = refl
no_lines heading (n ∷ ns) h = absurd (omega (arith, h))

-- with names there is the heading, and the names
pub some_columns : (terminal : Terminal) (heading : Text) (names : List ReportedName) → 0 < length names
    → columns_text terminal (heading, map name_view names)
    ≡ heading_line terminal.coloured heading ++ table_text terminal.width (map (cell_of terminal.coloured) (map name_view names))
some_columns terminal heading [] h = absurd (omega arith)
some_columns terminal heading (n ∷ ns) h = refl

pub some_lines : (heading : Text) (names : List ReportedName) → 0 < length names
    → lines_text (heading, map name_view names) ≡ shown_line heading ++ flat_map name_line (map name_view names)
some_lines heading [] h = absurd (omega arith)
some_lines heading (n ∷ ns) h = refl
