-- What holds of lines in columns (own).
use Rattle.std.specs.Prelude.{◌≡◌, ℕ, ◌+◌, ◌*◌, ◌≤◌, ◌==◌, ◌||◌, Bool, true, false, not, filter, length}
use Rattle.std.specs.List.{IsAmong}
use Rattle.std.specs.Str.{is_utf8}
use Rattle.terminal.specs.columns.Columns.{Text, aligned, aligned_line, column_width, field_at, filled, is_parted, lines}
use Rattle.terminal.specs.columns.Columns.{most_width, width_of}

-- a blank or a tab
abbrev pub is_gap : ℕ → Bool
is_gap b = (b == 32) || (b == 9)

-- the text without its blanks and tabs
abbrev pub without_gaps : Text → Text
without_gaps text = filter (λ b. not (is_gap b)) text

-- Blanks and tabs aside nothing is changed: no byte is lost, added or moved.
abbrev pub KeepsTexts : Type 0
KeepsTexts = (text : Text) → without_gaps (aligned text) ≡ without_gaps text

-- A field of a line that tabs part, with what fills its column, is as wide as its column and two blanks: so the fields
-- of a column begin below one another, but behind a field that is wider than a column can be.
abbrev pub FieldsFill : Type 0
FieldsFill = (text line : Text) (place : ℕ) → IsAmong (lines text) line → is_parted line ≡ true
    → is_utf8 (field_at place line) ≡ true → width_of (field_at place line) ≤ most_width
    → width_of (filled (column_width (lines text) place) (field_at place line)) ≡ column_width (lines text) place + 2

-- The text grows by no more than its columns.
abbrev pub StaysShort : Type 0
StaysShort = (text : Text) → length (aligned text) ≤ (most_width + 2) * length text

-- A line that no tab parts stays.
abbrev pub LinesStay : Type 0
LinesStay = (width : ℕ → ℕ) (line : Text) → is_parted line ≡ false → aligned_line width line ≡ line
