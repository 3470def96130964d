-- Pieces of a source text: suffixes, prefixes and byte ranges.
use Rattle.std.specs.Prelude.{◌≡◌, ℕ, ◌-◌, [], ◌++◌, length, take, drop, Bool, ◌||◌, ◌&&◌, nat_lt, nat_le, slice_index}
use Rattle.std.specs.Prelude.{if◌then◌else◌}
use Rattle.tcltext.specs.chars.Runs.{Text}

-- the whole text ends with the rest
abbrev pub IsSuffixOf : Text → Text → Type 0
IsSuffixOf whole rest = (before : Text) × (whole ≡ before ++ rest)

-- the whole text begins with the piece
abbrev pub IsPrefixOf : Text → Text → Type 0
IsPrefixOf whole piece = (after : Text) × (whole ≡ piece ++ after)

-- a character begins at the offset, or the text ends there
abbrev pub is_boundary : Text → ℕ → Bool
is_boundary bs i =
    nat_le i (length bs) && (nat_le (length bs) i || nat_lt (slice_index bs i) 128 || nat_le 192 (slice_index bs i))

-- the text between two offsets; the empty text where they cut a character
abbrev pub between : Text → ℕ → ℕ → Text
between bs start end =
    if nat_le start end && (is_boundary bs start && is_boundary bs end) then take (end - start) (drop start bs) else []
