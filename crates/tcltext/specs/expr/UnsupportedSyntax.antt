-- What expr(n) has and is unsupported here, by the name that a bad token has: the operator ** and functions (own).
use Rattle.std.specs.Prelude.{ℕ, [], ◌∷◌, Bool, false, not, ◌||◌, ◌&&◌, ◌==◌, nat_le, if◌then◌else◌, Option, Some, None}
use Rattle.std.specs.Prelude.{codes, bytes_eq}
use Rattle.tcltext.specs.chars.Runs.{Text, take_while, drop_while, begins}
use Rattle.tcltext.specs.chars.Bytes.{star, left_parenthesis}
use Rattle.tcltext.specs.chars.Classes.{is_name, begins_in}

-- the text begins with the operator **
abbrev pub begins_power : Text → Bool
begins_power [] = false
begins_power (b ∷ bs) = b == star && begins star bs

-- a letter or an underscore
abbrev pub is_letter : ℕ → Bool
is_letter b = is_name b && not (nat_le 48 b && nat_le b 57)

-- the words that are operators
abbrev pub is_operator_word : Text → Bool
is_operator_word t =
    bytes_eq t (codes "eq") || bytes_eq t (codes "ne") || bytes_eq t (codes "in") || bytes_eq t (codes "ni")

-- the text begins with the name of a function: a word that is no operator, with a parenthesis directly after it
abbrev pub names_function : Text → Bool
names_function t =
    begins_in is_letter t && begins left_parenthesis (drop_while is_name t)
    && not (is_operator_word (take_while is_name t))

-- the name of the unsupported operator or function that the text begins with, if it does; it begins at a bad token
abbrev pub unsupported_at : Text → Option Text
unsupported_at t =
    if begins_power t then Some (star ∷ (star ∷ [])) else if names_function t then Some (take_while is_name t) else None
