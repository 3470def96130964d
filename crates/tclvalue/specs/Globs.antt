-- Which texts match a pattern (string(n), match), as a test that computes beside the relation IsMatch of tcltext.
-- Patterns and texts are lists of characters here.
use Rattle.std.specs.Prelude.{◌≡◌, ◌↔◌, ℕ, [], ◌∷◌, Bool, true, false, ◌||◌, ◌&&◌, ◌==◌, if◌then◌else◌, Option, Some}
use Rattle.std.specs.Prelude.{None}
use Rattle.std.specs.Str.{chars}
use Rattle.tcltext.specs.chars.Runs.{Text}
use Rattle.tcltext.specs.pattern.Patterns.{star, question, open_bracket, close_bracket, backslash, dash, is_between}
use Rattle.tcltext.specs.pattern.Patterns.{after_close, IsMatch}

-- the pattern after the closing bracket, where the item has the character; else what more answers
abbrev pub where_holds : Bool → Text → Option Text → Option Text
where_holds true ps more = Some (after_close ps)
where_holds false ps more = more

-- The rest of a pattern after a set that has the character. The set is given from after its opening bracket, and its
-- items are read from the left: a range of two characters, or a character. None where it doesn't have the character:
-- a closing bracket comes before an item with it, or the pattern ends, or ends directly after the dash of a range
abbrev pub rest_after_set : ℕ → Text → Option Text
rest_after_set c [] = None
rest_after_set c (low ∷ []) = if low == close_bracket then None else where_holds (low == c) [] None
rest_after_set c (low ∷ d ∷ []) =
    if low == close_bracket || d == dash then None else where_holds (low == c) (d ∷ []) (rest_after_set c (d ∷ []))
rest_after_set c (low ∷ d ∷ high ∷ ps) =
    if low == close_bracket then None
    else if d == dash then where_holds (is_between low high c) ps (rest_after_set c ps)
    else where_holds (low == c) (d ∷ high ∷ ps) (rest_after_set c (d ∷ high ∷ ps))

-- the rest of the pattern is judged by rest: after a set, and after a backslash with the character that it stands for
abbrev pub after_set : (Text → Bool) → Option Text → Bool
after_set rest None = false
after_set rest (Some ps) = rest ps

abbrev pub after_escape : (Text → Bool) → ℕ → Text → Bool
after_escape rest c [] = false
after_escape rest c (p ∷ ps) = p == c && rest ps

-- the pattern matches the character, and rest accepts the pattern after it. A star matches no character, or this one
-- and stays
abbrev pub matches_first : (Text → Bool) → Bool → ℕ → ℕ → Text → Bool
matches_first rest without c p ps =
    if p == star then without || rest (p ∷ ps)
    else if p == question then rest ps
    else if p == open_bracket then after_set rest (rest_after_set c ps)
    else if p == backslash then after_escape rest c ps
    else p == c && rest ps

abbrev pub matches_from : (Text → Bool) → ℕ → Text → Bool
matches_from rest c [] = false
matches_from rest c (p ∷ ps) = matches_first rest (matches_from rest c ps) c p ps

-- the pattern matches the empty text
abbrev pub matches_nothing : Text → Bool
matches_nothing [] = true
matches_nothing (p ∷ ps) = p == star && matches_nothing ps

-- the pattern matches the text
abbrev pub matches : Text → Text → Bool
matches ps [] = matches_nothing ps
matches ps (c ∷ cs) = matches_from (λ qs. matches qs cs) c ps

abbrev pub glob : Text → Text → Bool
glob pattern t = matches (chars pattern) (chars t)

-- the test decides the relation
abbrev pub DecidesMatch : Type 0
DecidesMatch = (pattern t : Text) → (matches pattern t ≡ true) ↔ IsMatch pattern t
