-- Whole numbers and numbers with a fraction as texts (Tcl(n) and expr(n)), as relations. By the laws `numeral_of_whole`
-- and `numeral_of_fraction` the function `numeral` agrees with them.
use Rattle.std.specs.Prelude.{◌≡◌, ◌≢◌, ◌≤◌, ℕ, length, [], ◌∷◌, ◌++◌, Bool, true, false, not, ◌==◌, ◌⊎◌, Some}
use Rattle.std.specs.Str.Parse.{AllDigits, digits_value}
use Rattle.tcltext.specs.chars.Bytes.{is_space, AllPass, DoesBegin}
use Rattle.tcltext.specs.chars.Runs.{Text}
use Rattle.tcltext.specs.chars.Numerals.{base_of, is_digit, is_number_name}

-- digits of the base, one at least, and the number that they spell
abbrev pub IsDigits : ℕ → Text → ℕ → Type 0
IsDigits base ds n = (ds ≢ []) × AllDigits base ds × (n ≡ digits_value base ds)

-- A whole number without a sign: in decimal digits; 0; in octal digits after a 0; or in the digits of the base that a
-- letter after a 0 names.
pub data IsMagnitude : Text → ℕ → Type 0 where
  decimal : {ds : Text} {n : ℕ} → DoesBegin (λ b. not (b == 48)) ds → IsDigits 10 ds n → IsMagnitude ds n
  zero : IsMagnitude (48 ∷ []) 0
  octal : {ds : Text} {n : ℕ} → IsDigits 8 ds n → IsMagnitude (48 ∷ ds) n
  based : {b base : ℕ} {ds : Text} {n : ℕ} → base_of b ≡ Some base → IsDigits base ds n → IsMagnitude (48 ∷ (b ∷ ds)) n

-- a text with a sign or without one, and the text after the sign; the flag is true for a minus
pub data IsSigned : Text → Bool → Text → Type 0 where
  without_sign : {t : Text} → IsSigned t false t
  with_plus : {t : Text} → IsSigned (43 ∷ t) false t
  with_minus : {t : Text} → IsSigned (45 ∷ t) true t

-- a text with white space around it
abbrev pub IsSpaced : Text → Text → Type 0
IsSpaced t core =
    (before after : Text) × (t ≡ before ++ (core ++ after)) × AllPass is_space before × AllPass is_space after

-- the text is a whole number with this sign and magnitude
abbrev pub IsWhole : Text → Bool → ℕ → Type 0
IsWhole t minus n = (core digits : Text) × IsSpaced t core × IsSigned core minus digits × IsMagnitude digits n

-- an exponent: e or E, and decimal digits after a sign or none
abbrev pub IsExponent : Text → Type 0
IsExponent [] = ⊥
IsExponent (b ∷ bs) =
    ((b ≡ 101) ⊎ (b ≡ 69)) × (minus : Bool) × (ds : Text) × IsSigned bs minus ds × (ds ≢ []) × AllPass is_digit ds

-- A number with a fraction, without a sign: decimal digits with a point before, between or after them, one digit at
-- least, with an exponent or none; digits with an exponent; digits after a 0 that are no octal ones; or by name an
-- infinity, or what is not a number.
pub data IsFraction : Text → Type 0 where
  pointed : (whole part exponent : Text) → AllPass is_digit whole → AllPass is_digit part → whole ++ part ≢ []
      → (exponent ≡ []) ⊎ IsExponent exponent
      → IsFraction (whole ++ 46 ∷ (part ++ exponent))
  scaled : (whole exponent : Text) → whole ≢ [] → AllPass is_digit whole → IsExponent exponent
      → IsFraction (whole ++ exponent)
  after_zero : (ds : Text) → AllPass is_digit ds → ((n : ℕ) → IsMagnitude (48 ∷ ds) n → ⊥) → IsFraction (48 ∷ ds)
  named : {t : Text} → is_number_name t ≡ true → IsFraction t

-- the text is a number with a fraction, after a sign or none
abbrev pub IsFractional : Text → Type 0
IsFractional t =
    (core digits : Text) × (minus : Bool) × IsSpaced t core × IsSigned core minus digits × IsFraction digits

-- a number without a sign, whole or with a fraction, but not by name
abbrev pub IsNumber : Text → Type 0
IsNumber t = ((n : ℕ) × IsMagnitude t n) ⊎ (IsFraction t × (is_number_name t ≡ false))

-- the text begins with a number, and then comes the rest; no longer prefix of it is a number
abbrev pub IsNumberIn : Text → Text → Type 0
IsNumberIn bs rest =
    (t : Text) × (bs ≡ t ++ rest) × IsNumber t
    × ((u other : Text) → bs ≡ u ++ other → IsNumber u → length rest ≤ length other)
