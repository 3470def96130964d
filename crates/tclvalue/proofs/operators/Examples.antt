-- Worked values, by computation alone.
use Rattle.std.specs.Prelude.{◌≡◌, refl, codes, Ok, Err, true}
use Rattle.std.specs.Str.{chars}
use Rattle.std.specs.Fmt.{digits}
use Rattle.tcltext.specs.chars.Numerals.{numeral}
use Rattle.tcltext.specs.declared.expr.operators.UnaryOperator.TheVariants.{Minus, Complement}
use Rattle.tcltext.specs.declared.expr.operators.BinaryOperator.TheVariants as binary
use Rattle.tclvalue.specs.operators.Faults.{error, fraction, number_too_large}
use Rattle.tclvalue.specs.operators.Messages.{divide_by_zero, negative_shift, not_numeric, not_a_boolean}
use Rattle.tclvalue.specs.operators.Operators.{unary_value, binary_value, truth}

quotient_down : binary_value binary.Divide (codes "-7") (codes "2") ≡ Ok (codes "-4")
unfolding numeral digits
quotient_down = refl

remainder_of_divisor : binary_value binary.Remainder (codes "-7") (codes "2") ≡ Ok (codes "1")
unfolding numeral digits
remainder_of_divisor = refl

remainder_of_negative : binary_value binary.Remainder (codes "7") (codes "-2") ≡ Ok (codes "-1")
unfolding numeral digits
remainder_of_negative = refl

octal : binary_value binary.Add (codes "010") (codes "1") ≡ Ok (codes "9")
unfolding numeral digits
octal = refl

fraction_compared : binary_value binary.Equal (codes "1.10") (codes "1.1") ≡ Err fraction
unfolding numeral digits chars
fraction_compared = refl

sum_too_large : binary_value binary.Add (codes "9223372036854775807") (codes "1") ≡ Err number_too_large
unfolding numeral digits
sum_too_large = refl

fraction_before_zero : binary_value binary.Divide (codes "1.5") (codes "0") ≡ Err fraction
unfolding numeral digits
fraction_before_zero = refl

zero_divisor : binary_value binary.Divide (codes "1") (codes "0") ≡ Err (error divide_by_zero)
unfolding numeral digits
zero_divisor = refl

text_before_fraction : binary_value binary.Add (codes "a") (codes "1.5") ≡ Err (error (not_numeric (codes "+")))
unfolding numeral digits
text_before_fraction = refl

fraction_before_text : binary_value binary.Add (codes "1.5") (codes "a") ≡ Err fraction
unfolding numeral digits
fraction_before_text = refl

numbers_compared : binary_value binary.Less (codes "9") (codes "10") ≡ Ok (codes "1")
unfolding numeral digits chars
numbers_compared = refl

texts_compared : binary_value binary.Less (codes "a9") (codes "a10") ≡ Ok (codes "0")
unfolding numeral digits chars
texts_compared = refl

front_is_less : binary_value binary.Less (codes "abc") (codes "abcd") ≡ Ok (codes "1")
unfolding numeral digits chars
front_is_less = refl

spelled_otherwise : binary_value binary.TextEqual (codes "0x10") (codes "16") ≡ Ok (codes "0")
unfolding numeral digits
spelled_otherwise = refl

equal_as_numbers : binary_value binary.Equal (codes "0x10") (codes "16") ≡ Ok (codes "1")
unfolding numeral digits
equal_as_numbers = refl

least_number : binary_value binary.ShiftLeft (codes "-1") (codes "63") ≡ Ok (codes "-9223372036854775808")
unfolding numeral digits
least_number = refl

shifted_out : binary_value binary.ShiftLeft (codes "-1") (codes "64") ≡ Err number_too_large
unfolding numeral digits
shifted_out = refl

shifted_to_minus_one : binary_value binary.ShiftRight (codes "-5") (codes "70") ≡ Ok (codes "-1")
unfolding numeral digits
shifted_to_minus_one = refl

shifted_back : binary_value binary.ShiftLeft (codes "1") (codes "-1") ≡ Err (error negative_shift)
unfolding numeral digits
shifted_back = refl

bits_of_negative : binary_value binary.BitAnd (codes "-1") (codes "255") ≡ Ok (codes "255")
unfolding numeral digits
bits_of_negative = refl

negated_least : unary_value Minus (codes "-9223372036854775808") ≡ Err number_too_large
unfolding numeral digits
negated_least = refl

complement : unary_value Complement (codes "0") ≡ Ok (codes "-1")
unfolding numeral digits
complement = refl

front_of_truth : truth (codes "tR") ≡ Ok true
unfolding numeral
front_of_truth = refl

no_truth : truth (codes " true ") ≡ Err (error (not_a_boolean (codes " true ")))
unfolding numeral
no_truth = refl
