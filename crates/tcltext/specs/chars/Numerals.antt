-- The class of a text as a number, and its value (Tcl(n) and expr(n); the classes are own).
use Rattle.std.specs.Prelude.{ℕ, pos, negsuc, zero, suc, ◌+◌, ◌*◌, ◌^◌, [], ◌∷◌, Bool, true, false, ◌||◌, ◌&&◌, ◌==◌}
use Rattle.std.specs.Prelude.{nat_lt, nat_le, if◌then◌else◌, Option, Some, None, map, codes, bytes_eq}
use Rattle.std.specs.Char.{digit_value, to_ascii_lowercase}
use Rattle.tcltext.specs.chars.Bytes.{is_space}
use Rattle.tcltext.specs.chars.Runs.{Text, drop_while, begins}
use Rattle.tcltext.specs.declared.chars.number.Numeral.{Numeral}
use Rattle.tcltext.specs.declared.chars.number.Numeral.TheVariants as numerals

-- a byte before a text, unless it is white space and nothing follows it
abbrev pub before_trimmed : ℕ → Text → Text
before_trimmed b [] = if is_space b then [] else b ∷ []
before_trimmed b (x ∷ xs) = b ∷ (x ∷ xs)

-- the text without the white space that it ends with
abbrev pub trimmed_end : Text → Text
trimmed_end [] = []
trimmed_end (b ∷ bs) = before_trimmed b (trimmed_end bs)

-- the text without white space around it
abbrev pub trimmed : Text → Text
trimmed t = trimmed_end (drop_while is_space t)

abbrev pub is_minus : Text → Bool
is_minus t = begins 45 t

abbrev pub is_sign : ℕ → Bool
is_sign b = b == 43 || b == 45

-- the text without the sign that it begins with, if it does
abbrev pub without_sign : Text → Text
without_sign [] = []
without_sign (b ∷ bs) = if is_sign b then bs else b ∷ bs

-- the number n with these digits of the base after its own; None where one is no digit of the base
abbrev pub digits_from : ℕ → ℕ → Text → Option ℕ
digits_from base n [] = Some n
digits_from base n (d ∷ ds) =
    if nat_lt (digit_value d) base then digits_from base (n * base + digit_value d) ds else None

-- the number that digits of the base spell; None without digits
abbrev pub digits_in : ℕ → Text → Option ℕ
digits_in base [] = None
digits_in base (d ∷ ds) = digits_from base 0 (d ∷ ds)

-- the base that the letter after a leading 0 names: x, o and b in either case
abbrev pub base_of : ℕ → Option ℕ
base_of b =
    if b == 120 || b == 88 then Some 16
    else if b == 111 || b == 79 then Some 8
    else if b == 98 || b == 66 then Some 2
    else None

-- the number after a leading 0, by the base that the next letter names; octal where it names none
abbrev pub prefixed : ℕ → Text → Option ℕ → Option ℕ
prefixed b bs None = digits_in 8 (b ∷ bs)
prefixed b bs (Some base) = digits_in base bs

-- the number after a leading 0
abbrev pub after_zero : Text → Option ℕ
after_zero [] = Some 0
after_zero (b ∷ bs) = prefixed b bs (base_of b)

-- the value of a whole number without a sign
abbrev pub magnitude : Text → Option ℕ
magnitude [] = None
magnitude (b ∷ bs) = if b == 48 then after_zero bs else digits_in 10 (b ∷ bs)

abbrev pub is_digit : ℕ → Bool
is_digit b = nat_le 48 b && nat_le b 57

abbrev pub begins_digit : Text → Bool
begins_digit [] = false
begins_digit (b ∷ bs) = is_digit b

abbrev pub is_nil : Text → Bool
is_nil [] = true
is_nil (b ∷ bs) = false

-- decimal digits alone, one at least
abbrev pub are_digits : Text → Bool
are_digits t = begins_digit t && is_nil (drop_while is_digit t)

-- an exponent: the letter, then digits, which may have a sign
abbrev pub is_exponent : Text → Bool
is_exponent [] = false
is_exponent (b ∷ bs) = (b == 101 || b == 69) && are_digits (without_sign bs)

-- an exponent, or nothing
abbrev pub may_be_exponent : Text → Bool
may_be_exponent [] = true
may_be_exponent (b ∷ bs) = is_exponent (b ∷ bs)

-- What follows the leading digits of a number with a fraction: a point, an exponent, or both; or nothing, after a
-- leading 0 whose digits are not octal.
abbrev pub is_fraction_end : Text → Text → Bool
is_fraction_end t [] = begins 48 t
is_fraction_end t (b ∷ bs) =
    if b == 46 then (begins_digit t || begins_digit bs) && may_be_exponent (drop_while is_digit bs)
    else begins_digit t && is_exponent (b ∷ bs)

-- inf, infinity or nan in any case
abbrev pub is_number_name : Text → Bool
is_number_name t =
    bytes_eq (map to_ascii_lowercase t) (codes "inf") || bytes_eq (map to_ascii_lowercase t) (codes "infinity")
    || bytes_eq (map to_ascii_lowercase t) (codes "nan")

-- a number with a fraction, without a sign; asked where the text is no whole number
abbrev pub is_fraction : Text → Bool
is_fraction t = is_fraction_end t (drop_while is_digit t) || is_number_name t

-- a whole number with this sign, within 64 bits
abbrev pub whole_of : Bool → ℕ → Numeral
whole_of false n = if nat_lt n (2 ^ 63) then numerals.Whole (pos n) else numerals.TooLarge
whole_of true zero = numerals.Whole (pos 0)
whole_of true (suc n) = if nat_lt n (2 ^ 63) then numerals.Whole (negsuc n) else numerals.TooLarge

-- the class of a text, by its sign and its magnitude, if it has one
abbrev pub class_of : Bool → Text → Option ℕ → Numeral
class_of minus t (Some n) = whole_of minus n
class_of minus t None = if is_fraction t then numerals.Fraction else numerals.Text

-- the class of a text, with the value of a whole number
abbrev pub numeral_of : Text → Numeral
numeral_of t = class_of (is_minus t) (without_sign t) (magnitude (without_sign t))

unfoldable pub numeral : Text → Numeral
numeral t = numeral_of (trimmed t)
