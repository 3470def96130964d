-- What the code has of texts and of columns, in the definitions.
use Rattle.std.specs.Prelude.{ℕ, List, get_or, map}
use Rattle.std.specs.Borrow.{Bor}
use Rattle.terminal.specs.columns.Columns.{Text}

-- the texts of borrowed slices
abbrev pub texts : List (Bor Text) → List Text
texts slices = map (λ slice. slice.now) slices

-- how wide the column at a place is, by a list of widths
abbrev pub width_in : List ℕ → ℕ → ℕ
width_in widths place = get_or widths place 0
