-- Searches in texts, and replacements (string(n), first, last, map). Texts are lists of characters here.
use Rattle.std.specs.Prelude.{ℕ, zero, suc, List, [], ◌∷◌, ◌++◌, length, ◌-◌, Bool, ◌&&◌, not, if◌then◌else◌, Ok, Err}
use Rattle.std.specs.Prelude.{Option, Some, None, option_map, nat_eq, encode_utf8, find}
use Rattle.std.specs.Str.{chars}
use Rattle.std.specs.Option.{option_or}
use Rattle.std.specs.List.{starts_with}
use Rattle.tcltext.specs.chars.Runs.{Text}
use Rattle.tclvalue.specs.operators.Faults.{Answer, ◌>>=◌, error}
use Rattle.tclvalue.specs.operators.Messages.{not_a_list}
use Rattle.tclvalue.specs.operators.Operators.{is_nil}

-- the first position at which a text stands in another
abbrev pub first_position : Text → Text → Option ℕ
first_position sought [] = None
first_position sought (c ∷ cs) =
    if starts_with nat_eq (c ∷ cs) sought then Some 0 else option_map suc (first_position sought cs)

-- the last position at which a text stands in another
abbrev pub last_position : Text → Text → Option ℕ
last_position sought [] = None
last_position sought (c ∷ cs) =
    option_or (option_map suc (last_position sought cs)) (if starts_with nat_eq (c ∷ cs) sought then Some 0 else None)

-- a key and the text that replaces it
abbrev pub Pair : Type 0
Pair = Text × Text

-- keys and values by turns; a last key without a value makes this no list of pairs
abbrev pub pairs_of : List Text → Answer (List Pair)
pairs_of [] = Ok []
pairs_of (key ∷ []) = Err (error not_a_list)
pairs_of (key ∷ value ∷ rest) = pairs_of rest >>= (λ ps. Ok ((chars key, value) ∷ ps))

-- the text begins with the key; an empty key never fits
abbrev pub fits : Text → Pair → Bool
fits t p = not (is_nil p.0) && starts_with nat_eq t p.0

-- the first of the pairs whose key the text begins with
abbrev pub first_fit : List Pair → Text → Option Pair
first_fit ps t = find (fits t) ps

-- the bytes of a text in which, from left to right, the first key that fits is replaced. The number counts first
-- characters to be skipped, since they are the rest of a key that was replaced
abbrev pub replaced : ℕ → Option Pair → (ℕ → Text) → Text
replaced c (Some p) more = p.1 ++ more (length p.0 - 1)
replaced c None more = encode_utf8 c ++ more 0

abbrev pub mapped : List Pair → ℕ → Text → Text
mapped ps n [] = []
mapped ps (suc n) (c ∷ cs) = mapped ps n cs
mapped ps zero (c ∷ cs) = replaced c (first_fit ps (c ∷ cs)) (λ n. mapped ps n cs)
