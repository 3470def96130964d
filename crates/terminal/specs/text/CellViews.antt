-- How the type of the code shows a cell.
use Rattle.std.specs.Prelude.{string_bytes}
use Rattle.terminal.specs.text.Tables.{Cell}
use Rattle.terminal.specs.declared.text.table.Cell as code

-- what is written, and how many columns of the terminal that takes
abbrev pub cell_view : code.Cell → Cell
cell_view cell = (string_bytes cell.text, cell.width)
