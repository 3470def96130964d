use Rattle.std.proofs.Common.{◌≡◌, ◌++◌, drop, map}
use Rattle.terminal.specs.text.CellViews.{cell_view}
use Rattle.module_reports.specs.listings.Reports.{cell_of}
use Rattle.module_reports.specs.listings.Views.{name_view}
use Rattle.module_reports.proofs.listings.layout.cells_of.Given as goal

abbrev pub invariant-loop-name : goal.invariant-loop-name
invariant-loop-name l =
    map (cell_of l.terminal.coloured) (map name_view l.names)
    ≡ map cell_view l.cells.items ++ map (cell_of l.terminal.coloured) (map name_view (drop l.name-index l.names))
