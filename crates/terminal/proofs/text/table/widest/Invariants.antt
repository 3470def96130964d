use Rattle.std.proofs.Common.{◌≡◌, map, drop}
use Rattle.terminal.specs.text.Tables.{most_of, widest}
use Rattle.terminal.specs.text.CellViews.{cell_view}
use Rattle.terminal.proofs.text.table.widest.Given as goal

abbrev pub invariant-loop-cell : goal.invariant-loop-cell
invariant-loop-cell l =
    widest (map cell_view l.cells) ≡ most_of l.widest (map cell_view (drop l.cell-index l.cells))
