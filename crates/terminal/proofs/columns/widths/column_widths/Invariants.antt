use Rattle.std.proofs.Common.{ℕ, ◌≡◌, drop, get_or, max}
use Rattle.terminal.specs.columns.Columns.{column_width}
use Rattle.terminal.specs.columns.Views.{texts}
use Rattle.terminal.proofs.columns.widths.column_widths.Given as goal

-- the columns so far, widened to the lines that are left, are those of all lines
abbrev pub invariant-loop-line : goal.invariant-loop-line
invariant-loop-line l =
    (place : ℕ) → max (column_width (texts (drop l.line-index l.lines)) place) (get_or l.widths.items place 0)
    ≡ column_width (texts l.lines) place
