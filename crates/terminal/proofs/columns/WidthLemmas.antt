-- How wide columns are, line after line.
use Rattle.std.proofs.Common.{◌≡◌, ℕ, Bool, true, false, List, [], ◌∷◌, map, filter, chars, max, min, refl, ap, ◌∙◌, arith}
use Rattle.std.specs.Prelude.{if◌then◌else◌}
use Rattle.std.proofs.lemmas.Str.{IsUtf8-nil, chars-nil}
use Rattle.unicode_width.specs.Width.{str_width}
use Rattle.terminal.specs.columns.Columns.{Text, column_width, field_at, is_parted, most_width, widest, width_of}
use Rattle.terminal.proofs.columns.Utf8.{is_text}

no_width : str_width false [] ≡ 0
unfolding str_width
no_width = refl

-- an empty text takes no columns
pub width_of-nil : width_of [] ≡ 0
width_of-nil =
    ap (λ (utf8 : Bool). if utf8 then str_width false (chars []) else 0) (is_text [] IsUtf8-nil)
    ∙ (ap (str_width false) chars-nil ∙ no_width)

widest_of : (place : ℕ) (line : Text) (lines : List Text) (parted : Bool)
    → min (widest (map (field_at place) (if parted then line ∷ filter is_parted lines else filter is_parted lines))) most_width
    ≡ max (min (widest (map (field_at place) (if parted then line ∷ [] else []))) most_width) (min (widest (map (field_at place) (filter is_parted lines))) most_width)
widest_of place line lines true = omega arith
widest_of place line lines false = omega arith

-- a column of several lines is as wide as that of the first, or as that of the others
pub column_width-cons : (line : Text) (lines : List Text) (place : ℕ)
    → column_width (line ∷ lines) place ≡ max (column_width (line ∷ []) place) (column_width lines place)
column_width-cons line lines place = widest_of place line lines (is_parted line)
