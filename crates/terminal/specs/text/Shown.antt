-- What a terminal shows of a text (own). Which characters end a line or turn its direction: Unicode Standard Annex 14,
-- class BK, and Annex 9, the property Bidi_Control.
use Rattle.std.specs.Prelude.{ℕ, ◌==◌, ◌||◌, ◌&&◌, nat_lt, Bool, not, if◌then◌else◌, List, [], ◌∷◌, chars, encode_utf8}
use Rattle.std.specs.List.{flat_map}

-- a text is its bytes
abbrev pub Text : Type 0
Text = List ℕ

-- the character is one of those from the first to the last
abbrev pub is_from_to : ℕ → ℕ → ℕ → Bool
is_from_to first last c = not (nat_lt c first) && not (nat_lt last c)

-- a control character
abbrev pub is_control : ℕ → Bool
is_control c = nat_lt c 32 || is_from_to 127 159 c

-- a mark that ends a line or a paragraph, or says in which direction a text is written
abbrev pub is_mark : ℕ → Bool
is_mark c = (c == 0x61c) || (is_from_to 0x200e 0x200f c || (is_from_to 0x2028 0x202e c || is_from_to 0x2066 0x2069 c))

-- the character steers a terminal
abbrev pub steers : ℕ → Bool
steers c = is_control c || is_mark c

-- what is shown of a character: a question mark for one that steers the terminal
abbrev pub shown_char : ℕ → Text
shown_char c = if steers c then 63 ∷ [] else encode_utf8 c

-- what is shown of a text
abbrev pub shown : Text → Text
shown text = flat_map shown_char (chars text)

-- the character is a tab or the end of a line, which lay out a text of several lines
abbrev pub lays_out : ℕ → Bool
lays_out c = (c == 9) || (c == 10)

-- what is shown of a character of such a text, and of the text
abbrev pub shown_in_lines : ℕ → Text
shown_in_lines c = if lays_out c then c ∷ [] else shown_char c

abbrev pub shown_lines : Text → Text
shown_lines text = flat_map shown_in_lines (chars text)
