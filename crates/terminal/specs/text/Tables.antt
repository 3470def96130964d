-- A table of cells (own). Read down, column after column, the cells stand in their order: the first row has the first
-- of them and those that are a number of rows, twice as many, and so on, further on.
use Rattle.std.specs.Prelude.{ℕ, zero, suc, ◌+◌, ◌-◌, ◌/◌, List, [], ◌∷◌, ◌++◌, length, drop, max, min, replicate}
use Rattle.std.specs.Int.{div_ceil}
use Rattle.std.specs.List.{flat_map, range_with_len}
use Rattle.terminal.specs.text.Shown.{Text}

-- a cell: what is written, and how many columns of the terminal that takes
abbrev pub Cell : Type 0
Cell = Text × ℕ

-- the columns that the widest of the cells takes, or as many as are given where none takes more
abbrev pub most_of : ℕ → List Cell → ℕ
most_of most [] = most
most_of most (cell ∷ cells) = most_of (max cell.1 most) cells

abbrev pub widest : List Cell → ℕ
widest cells = most_of 0 cells

-- how wide a column of the table is, with two blanks behind it
abbrev pub column_width : ℕ → List Cell → ℕ
column_width width cells = min (widest cells) width + 2

-- how many cells a row has room for: at least one
abbrev pub cells_in_row : ℕ → List Cell → ℕ
cells_in_row width cells = max ((width + 2) / column_width width cells) 1

-- how many rows there are
abbrev pub row_count : ℕ → List Cell → ℕ
row_count width cells = div_ceil (length cells) (cells_in_row width cells)

-- The first of the cells, behind a gap, and those that stand further on by this step, up to a count: each, but for the
-- last, fills its column.
abbrev pub row_text : (column step count gap : ℕ) → List Cell → Text
row_text column step zero gap cells = []
row_text column step (suc count) gap [] = []
row_text column step (suc count) gap (cell ∷ cells) =
    replicate gap 32 ++ (cell.0 ++ row_text column step count (column - cell.1) (drop step (cell ∷ cells)))

-- the row that begins with the cell at a place, and a newline
abbrev pub row_line : (column step count : ℕ) → List Cell → ℕ → Text
row_line column step count cells place = row_text column step count 0 (drop place cells) ++ 10 ∷ []

-- the rows of the table, each a line
abbrev pub table_text : ℕ → List Cell → Text
table_text width cells =
    flat_map (row_line (column_width width cells) (row_count width cells) (cells_in_row width cells) cells)
    (range_with_len 0 (row_count width cells))
