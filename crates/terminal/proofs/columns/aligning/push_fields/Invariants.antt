use Rattle.std.proofs.Common.{◌≡◌, ◌++◌, drop}
use Rattle.terminal.specs.columns.Columns.{in_columns}
use Rattle.terminal.specs.columns.Views.{texts, width_in}
use Rattle.terminal.proofs.columns.aligning.push_fields.Given as goal

-- what is written, and the fields that are left, in their columns
abbrev pub invariant-loop-place : goal.invariant-loop-place
invariant-loop-place l =
    l.text.items ++ in_columns (width_in l.widths) l.place (drop l.place (texts l.fields))
    ≡ l.initial.text.items ++ in_columns (width_in l.widths) 0 (texts l.fields)
