use Rattle.std.proofs.Common.{◌≡◌, ◌++◌, ◌∷◌, flat_map, take}
use Rattle.terminal.specs.columns.Columns.{Text, aligned_line}
use Rattle.terminal.specs.columns.Views.{texts, width_in}
use Rattle.terminal.proofs.columns.aligning.push_later.Given as goal

abbrev pub invariant-loop-line : goal.invariant-loop-line
invariant-loop-line l =
    l.text.items ≡ l.initial.text.items
    ++ flat_map (λ (line : Text). 10 ∷ aligned_line (width_in l.widths) line) (texts (take l.line-index l.lines))
