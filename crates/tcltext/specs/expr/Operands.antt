-- The operands of expressions (expr(n), OPERANDS), as functions that compute: numbers, truth words, and the
-- substitutions, quoted and braced texts of scripts.
use Rattle.std.specs.Prelude.{ℕ, suc, ◌+◌, [], ◌∷◌, length, Bool, true, false, not, ◌||◌, ◌&&◌, ◌==◌, nat_le}
use Rattle.std.specs.Prelude.{if◌then◌else◌, Option, Some, None, Result, Ok, Err}
use Rattle.tcltext.specs.chars.Bytes.{quote, dollar, left_parenthesis, left_bracket, left_brace}
use Rattle.tcltext.specs.chars.Runs.{Text, take_while, drop_while, begins}
use Rattle.tcltext.specs.chars.Classes.{is_name, begins_in}
use Rattle.tcltext.specs.chars.Braces.{braced_at}
use Rattle.tcltext.specs.chars.Reading.{◌>>=◌, Read, read_map}
use Rattle.tcltext.specs.declared.chars.fault.Fault.{Fault}
use Rattle.tcltext.specs.declared.chars.fault.Fault.TheVariants.{OpenBrace, BadExpression}
use Rattle.tcltext.specs.script.Tree as tree
use Rattle.tcltext.specs.script.Tree.{Commands, Parts, Part, nesting, parts_nesting}
use Rattle.tcltext.specs.script.Reading.{on_mark, inner_at, dollar_at, bracket_at, quotes_at, taken}
use Rattle.tcltext.specs.declared.expr.numbers.Digits.{Digits}
use Rattle.tcltext.specs.declared.expr.numbers.Digits.TheVariants.{Binary, Octal, Decimal, Hexadecimal}

-- A number and a word are their texts; braced is the text between braces, as it is; the others are as in scripts.
pub data Operand : Type 0 where
  number : Text → Operand
  word : Text → Operand
  variable : Text → Operand
  indexed : Text → Parts → Operand
  bracket : Commands → Operand
  quoted : Parts → Operand
  braced : Text → Operand

-- Numbers

-- the byte is a digit of the base
abbrev pub is_digit : Digits → ℕ → Bool
is_digit Binary b = nat_le 48 b && nat_le b 49
is_digit Octal b = nat_le 48 b && nat_le b 55
is_digit Decimal b = nat_le 48 b && nat_le b 57
is_digit Hexadecimal b = (nat_le 48 b && nat_le b 57) || (nat_le 65 b && nat_le b 70) || (nat_le 97 b && nat_le b 102)

abbrev pub begins_digit : Digits → Text → Bool
begins_digit digits bs = begins_in (is_digit digits) bs

unfoldable pub after_digits : Digits → Text → Text
after_digits digits bs = drop_while (is_digit digits) bs

-- the digits that a letter after a leading 0 announces: x, o or b in either case
abbrev pub announced : ℕ → Option Digits
announced b =
    if b == 120 || b == 88 then Some Hexadecimal
    else if b == 111 || b == 79 then Some Octal
    else if b == 98 || b == 66 then Some Binary
    else None

-- the rest after the digits that follow such a letter, if there are any
abbrev pub after_announced : Text → Option Digits → Option Text
after_announced bs None = None
after_announced bs (Some digits) = if begins_digit digits bs then Some (after_digits digits bs) else None

-- the rest after a number with a base prefix, if the text begins with one
abbrev pub after_based : Text → Option Text
after_based [] = None
after_based (b ∷ []) = None
after_based (b ∷ (c ∷ bs)) = if b == 48 then after_announced bs (announced c) else None

abbrev pub is_sign : ℕ → Bool
is_sign b = b == 43 || b == 45

-- the text without the sign that it begins with, if it does
abbrev pub after_sign : Text → Text
after_sign [] = []
after_sign (b ∷ bs) = if is_sign b then bs else b ∷ bs

-- the text without the exponent that it begins with, if it does: e or E, a sign or none, and digits
abbrev pub after_exponent : Text → Text
after_exponent [] = []
after_exponent (b ∷ bs) =
    if (b == 101 || b == 69) && begins_digit Decimal (after_sign bs) then after_digits Decimal (after_sign bs)
    else b ∷ bs

-- the text without the point and the digits that it begins with, if it does
abbrev pub after_fraction : Text → Text
after_fraction [] = []
after_fraction (b ∷ bs) = if b == 46 then after_digits Decimal bs else b ∷ bs

-- the text begins with a point and a digit
abbrev pub begins_point : Text → Bool
begins_point [] = false
begins_point (b ∷ bs) = (b == 46) && begins_digit Decimal bs

-- the rest after a decimal number: digits with a point or without one, with an exponent or without one
abbrev pub after_decimal : Text → Option Text
after_decimal bs =
    if begins_digit Decimal bs || begins_point bs
    then Some (after_exponent (after_fraction (after_digits Decimal bs)))
    else None

abbrev pub first_of_both : Option Text → Option Text → Option Text
first_of_both None other = other
first_of_both (Some rest) other = Some rest

-- the rest after the longest number that the text begins with
unfoldable pub after_number : Text → Option Text
after_number bs = first_of_both (after_based bs) (after_decimal bs)

-- Truth words: the prefixes of true, false, yes and no, and on, of and off, in any case

abbrev pub lower : ℕ → ℕ
lower b = if nat_le 65 b && nat_le b 90 then b + 32 else b

-- the first text, in lower case, is a prefix of the other
abbrev pub is_prefix : Text → Text → Bool
is_prefix [] bs = true
is_prefix (a ∷ xs) [] = false
is_prefix (a ∷ xs) (b ∷ bs) = (lower a == b) && is_prefix xs bs

-- a prefix of true, false, yes or no
abbrev pub is_truth_prefix : Text → Bool
is_truth_prefix bs =
    is_prefix bs (116 ∷ (114 ∷ (117 ∷ (101 ∷ [])))) || is_prefix bs (102 ∷ (97 ∷ (108 ∷ (115 ∷ (101 ∷ [])))))
    || is_prefix bs (121 ∷ (101 ∷ (115 ∷ []))) || is_prefix bs (110 ∷ (111 ∷ []))

-- a prefix of on or off
abbrev pub is_switch_prefix : Text → Bool
is_switch_prefix bs = is_prefix bs (111 ∷ (110 ∷ [])) || is_prefix bs (111 ∷ (102 ∷ (102 ∷ [])))

unfoldable pub is_truth : Text → Bool
is_truth bs = (nat_le 1 (length bs) && is_truth_prefix bs) || (nat_le 2 (length bs) && is_switch_prefix bs)

-- Operands

-- a substitution of a script, with how deep it nests; a literal dollar is no operand
abbrev pub operand_of : ℕ → Part → Result (Operand × ℕ) Fault
operand_of remaining (tree.variable name) = Ok (variable name, 0)
operand_of remaining (tree.indexed name ps) = Ok (indexed name ps, suc (parts_nesting ps))
operand_of remaining (tree.bracket s) = Ok (bracket s, suc (nesting s))
operand_of remaining part = Err (BadExpression remaining)

abbrev pub substituted : ℕ → Part × Text → Read (Operand × ℕ)
substituted remaining p = operand_of remaining p.0 >>= (λ o. Ok (o, p.1))

-- A variable, after its dollar, and a script, after its bracket; the number is how many bytes remain from that mark on.
abbrev pub variable_operand_at : ℕ → ℕ → Text → Read (Operand × ℕ)
variable_operand_at d remaining bs = dollar_at (inner_at d) bs >>= substituted remaining

abbrev pub bracket_operand_at : ℕ → ℕ → Text → Read (Operand × ℕ)
bracket_operand_at d remaining bs = bracket_at (inner_at d) bs >>= substituted remaining

-- a text in quotes, after the opening quote
unfoldable pub quoted_at : ℕ → Text → Read (Operand × ℕ)
quoted_at d bs = read_map (λ ps. (quoted ps, parts_nesting ps)) (quotes_at (inner_at d) bs)

abbrev pub operand_in_braces : ℕ → Option (Text × Text) → Read (Operand × ℕ)
operand_in_braces remaining None = Err (OpenBrace remaining)
operand_in_braces remaining (Some p) = Ok ((braced p.0, 0), p.1)

-- a text in braces, after the opening brace
unfoldable pub braced_text_at : Text → Read (Operand × ℕ)
braced_text_at bs = operand_in_braces (suc (length bs)) (braced_at false 0 bs)

-- a truth word without a parenthesis directly after it
unfoldable pub word_at : Text → Read (Operand × ℕ)
word_at bs =
    if is_truth (take_while is_name bs) && not (begins left_parenthesis (drop_while is_name bs))
    then Ok ((word (take_while is_name bs), 0), drop_while is_name bs)
    else Err (BadExpression (length bs))

-- a number, by the rest after it, or a truth word
abbrev pub numeric : Text → Option Text → Read (Operand × ℕ)
numeric bs None = word_at bs
numeric bs (Some rest) = Ok ((number (taken bs rest), 0), rest)

-- the operand that the text begins with, in which so many brackets and parentheses may nest, with how deep they do
unfoldable pub operand_at : ℕ → Text → Read (Operand × ℕ)
operand_at d bs =
    on_mark dollar bs (variable_operand_at d (length bs))
    (on_mark left_bracket bs (bracket_operand_at d (length bs))
    (on_mark quote bs (quoted_at d) (on_mark left_brace bs braced_text_at (numeric bs (after_number bs)))))
