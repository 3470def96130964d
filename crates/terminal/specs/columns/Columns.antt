-- Lines in aligned columns (own): tabs part the fields of a line, and in their place blanks fill the columns.
use Rattle.std.specs.Prelude.{ℕ, ◌+◌, ◌-◌, ◌==◌, nat_lt, max, min, Bool, false, if◌then◌else◌, List, [], ◌∷◌, ◌++◌}
use Rattle.std.specs.Prelude.{chars, filter, get_or, length, map, replicate}
use Rattle.std.specs.List.{slice_split, join_with_byte}
use Rattle.std.specs.Str.{is_utf8}
use Rattle.unicode_width.specs.Width.{str_width}

-- a text is its bytes
abbrev pub Text : Type 0
Text = List ℕ

-- the lines of a text, and the fields of a line
abbrev pub lines : Text → List Text
lines text = slice_split (λ b. b == 10) text

abbrev pub fields : Text → List Text
fields line = slice_split (λ b. b == 9) line

-- how many columns of a terminal a text takes; as many as it has bytes, where it isn't UTF-8
abbrev pub width_of : Text → ℕ
width_of text = if is_utf8 text then str_width false (chars text) else length text

-- how many the widest of the texts takes
abbrev pub widest : List Text → ℕ
widest [] = 0
widest (text ∷ texts) = max (width_of text) (widest texts)

-- tabs part the line
abbrev pub is_parted : Text → Bool
is_parted line = nat_lt 1 (length (fields line))

-- the field at a place of the line; an empty one where it has none there
abbrev pub field_at : ℕ → Text → Text
field_at place line = get_or (fields line) place []

-- how wide a column is at most: as a usual terminal
abbrev pub most_width : ℕ
most_width = 80

-- how wide a column is: as the widest field at its place, of the lines that tabs part
abbrev pub column_width : List Text → ℕ → ℕ
column_width lines place = min (widest (map (field_at place) (filter is_parted lines))) most_width

-- a field in a column of this width: blanks fill the column, and two more stand behind it
abbrev pub filled : ℕ → Text → Text
filled width field = field ++ replicate (width - width_of field + 2) 32

-- fields from a place on, in columns of these widths: each is filled but the last
abbrev pub in_columns : (ℕ → ℕ) → ℕ → List Text → Text
in_columns width place [] = []
in_columns width place (field ∷ []) = field
in_columns width place (field ∷ next ∷ fields) =
    filled (width place) field ++ in_columns width (place + 1) (next ∷ fields)

-- a line, in columns of these widths
abbrev pub aligned_line : (ℕ → ℕ) → Text → Text
aligned_line width line = in_columns width 0 (fields line)

-- The text with each of its lines in columns, as wide as its lines make them.
abbrev pub aligned : Text → Text
aligned text = join_with_byte 10 (map (aligned_line (column_width (lines text))) (lines text))
