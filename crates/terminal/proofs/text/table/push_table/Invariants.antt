use Rattle.std.proofs.Common.{◌≡◌, ◌++◌, map, string_bytes}
use Rattle.std.specs.List.{flat_map, range_with_len}
use Rattle.terminal.specs.text.Tables.{row_line}
use Rattle.terminal.specs.text.CellViews.{cell_view}
use Rattle.terminal.proofs.text.table.push_table.Given as goal

abbrev pub invariant-loop-row : goal.invariant-loop-row
invariant-loop-row l =
    string_bytes l.text ≡ string_bytes l.initial.text
    ++ flat_map (row_line l.layout.column l.layout.rows l.layout.cells (map cell_view l.cells)) (range_with_len 0 l.row)
