-- Whether a report mentions a text, of which each is in small letters of ASCII when it comes here (own).
use Rattle.std.specs.Prelude.{Bool, ◌==◌, ◌||◌, [], ◌∷◌, map, nat_eq}
use Rattle.std.specs.List.{after_first, before_first, list_any, slice_split, starts_with}
use Rattle.std.specs.Char.{to_ascii_lowercase}
use Rattle.envvars.specs.Texts.{Text}

-- the text with small letters for the capitals of ASCII
abbrev pub in_small_letters : Text → Text
in_small_letters text = map to_ascii_lowercase text

-- the text stands somewhere in the other: at its front, or in what is behind its first byte
abbrev pub stands_in : Text → Text → Bool
stands_in text [] = starts_with nat_eq [] text
stands_in text (b ∷ within) = starts_with nat_eq (b ∷ within) text || stands_in text within

-- the text stands in a line of a report: in the name in front of its first colon, or in the description behind that
abbrev pub is_in_line : Text → Text → Bool
is_in_line text line =
    stands_in text (before_first (λ b. b == 58) line) || stands_in text (after_first (λ b. b == 58) line)

-- the text stands in one of the lines of a report
abbrev pub is_mentioned : Text → Text → Bool
is_mentioned text report = list_any (is_in_line text) (slice_split (λ b. b == 10) report)
