use Rattle.std.proofs.Common.{ℕ, ◌≡◌, ◌≤◌, ◌<◌, [], get_or, length, max, min}
use Rattle.terminal.specs.columns.Columns.{most_width, width_of}
use Rattle.terminal.specs.columns.Views.{texts, width_in}
use Rattle.terminal.proofs.columns.widths.widen_to.Given as goal

-- the columns in front of the place are wide enough, and the others as they were
abbrev pub invariant-loop-place : goal.invariant-loop-place
invariant-loop-place l = record {
  bound : l.place ≤ length l.widths.items;
  widened : (at : ℕ) → at < l.place
      → width_in l.widths.items at ≡ max (min (width_of (get_or (texts l.fields) at [])) most_width) (width_in l.initial.widths.items at);
  others : (at : ℕ) → l.place ≤ at → width_in l.widths.items at ≡ width_in l.initial.widths.items at;
}
