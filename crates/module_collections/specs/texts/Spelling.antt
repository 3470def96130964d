-- The text of a collection (own in its choice of spelling; Environment Modules reads it as a script).
use Rattle.std.specs.Prelude.{ℕ, List, [], ◌∷◌, ◌++◌, Bool, not, ◌||◌, ◌==◌, codes, nat_le, flat_map, if◌then◌else◌}
use Rattle.std.specs.List.{list_all, list_any}
use Rattle.envvars.specs.Texts.{Text}
use Rattle.module_collections.specs.texts.Words.{is_alphanumeric}
use Rattle.module_collections.specs.texts.Lines.{Kept}

-- a byte that is written as it is: a letter, a digit, one of `_/.,+=@%^~:-`, or none of ASCII
abbrev pub is_plain : ℕ → Bool
is_plain b = is_alphanumeric b || nat_le 128 b || list_any (λ c. c == b) (codes "_/.,+=@%^~:-")

-- a byte that braces don't keep: a brace, a backslash, a newline
abbrev pub is_unbraced : ℕ → Bool
is_unbraced b = b == 123 || b == 125 || b == 92 || b == 10

-- a byte, behind a backslash where it is odd; `n` is for a newline
abbrev pub escape : ℕ → Text
escape b = if is_plain b then b ∷ [] else 92 ∷ (if b == 10 then 110 else b) ∷ []

-- a word in braces
abbrev pub braced : Text → Text
braced word = 123 ∷ (word ++ 125 ∷ [])

-- A word is written as it is where all its bytes may be; else in braces where they keep it; else with backslashes.
abbrev pub spelled : Text → Text
spelled word =
    if list_all is_plain word then word
    else if list_all (λ b. not (is_unbraced b)) word then braced word
    else flat_map escape word

-- a line that begins so, and then a word
abbrev pub line : Text → Text → Text
line front word = front ++ (spelled word ++ 10 ∷ [])

-- the text of a collection: a line for each directory, and then a line for each module
abbrev pub written : Kept → Text
written kept =
    flat_map (line (codes "module use --append ")) kept.directories
    ++ flat_map (line (codes "module load ")) kept.modules
