-- The operators of expr(n) on the texts of their operands. The operands are judged from the left, before a zero divisor
-- or a negative shift.
use Rattle.std.specs.Prelude.{Bool, true, false, not, ◌||◌, ◌&&◌, if◌then◌else◌, ℤ, neg_ℤ, Option, Some, None, Ok, Err}
use Rattle.std.specs.Prelude.{[], ◌∷◌, codes, length, take, bytes_eq}
use Rattle.std.specs.List.{list_any}
use Rattle.std.specs.Str.{chars, str_eq_ignore_ascii_case}
use Rattle.std.specs.Fmt.{signed_decimal}
use Rattle.std.specs.declared.cmp.Ordering.{Ordering}
use Rattle.std.specs.Ordering.{nat_cmp, int_cmp, is_lt, is_gt, is_le, is_ge, is_eq, is_ne}
use Rattle.std.specs.Cmp.Lexicographic.{slice_cmp}
use Rattle.tcltext.specs.chars.Runs.{Text}
use Rattle.tcltext.specs.chars.Numerals.{numeral}
use Rattle.tcltext.specs.expr.Symbols.{unary_symbol, binary_symbol}
use Rattle.tcltext.specs.declared.chars.number.Numeral.{Numeral}
use Rattle.tcltext.specs.declared.chars.number.Numeral.TheVariants as numerals
use Rattle.tcltext.specs.declared.expr.operators.UnaryOperator.{UnaryOperator}
use Rattle.tcltext.specs.declared.expr.operators.UnaryOperator.TheVariants.{Minus, Plus, Complement, Not}
use Rattle.tcltext.specs.declared.expr.operators.BinaryOperator.{BinaryOperator}
use Rattle.tcltext.specs.declared.expr.operators.BinaryOperator.TheVariants as binary
use Rattle.tclvalue.specs.operators.Faults.{Answer, error, number_too_large, fraction, ◌>>=◌}
use Rattle.tclvalue.specs.operators.Elements.{elements_of}
use Rattle.tclvalue.specs.operators.Messages.{not_numeric, not_a_boolean}
use Rattle.tclvalue.specs.operators.Numbers.{within_64_bits, is_zero, sum, difference, product, quotient_value}
use Rattle.tclvalue.specs.operators.Numbers.{remainder_value, shifted_left, shifted_right, bitwise_and, bitwise_xor}
use Rattle.tclvalue.specs.operators.Numbers.{bitwise_or, bitwise_not}

-- the number of an operand that has to be whole; the symbol is that of the operator, for the message
abbrev pub whole_of : Text → Numeral → Answer ℤ
whole_of symbol (numerals.Whole z) = Ok z
whole_of symbol numerals.TooLarge = Err number_too_large
whole_of symbol numerals.Fraction = Err fraction
whole_of symbol numerals.Text = Err (error (not_numeric symbol))

abbrev pub whole_operand : Text → Text → Answer ℤ
whole_operand symbol t = whole_of symbol (numeral t)

-- the number of an operand that may be any text; None for a text that spells none
abbrev pub number_of : Numeral → Answer (Option ℤ)
number_of (numerals.Whole z) = Ok (Some z)
number_of numerals.TooLarge = Err number_too_large
number_of numerals.Fraction = Err fraction
number_of numerals.Text = Ok None

abbrev pub number_operand : Text → Answer (Option ℤ)
number_operand t = number_of (numeral t)

-- the empty text
abbrev pub is_nil : Text → Bool
is_nil [] = true
is_nil (c ∷ cs) = false

-- truth: a whole number is true unless it is 0. Of words, in any case of their letters, true and yes, or their first
-- letters, and on are true; false and no, or their first letters, and of and off are false. First: a text is the first
-- letters of a word, one at least
abbrev pub has_abbreviation : Text → Text → Bool
has_abbreviation word t = not (is_nil t) && str_eq_ignore_ascii_case (take (length t) word) t

abbrev pub is_true_word : Text → Bool
is_true_word t = has_abbreviation (codes "true") t || has_abbreviation (codes "yes") t || str_eq_ignore_ascii_case t
    (codes "on")

abbrev pub is_false_word : Text → Bool
is_false_word t =
    has_abbreviation (codes "false") t || has_abbreviation (codes "no") t
    || str_eq_ignore_ascii_case t (codes "of") || str_eq_ignore_ascii_case t (codes "off")

abbrev pub word_truth : Text → Answer Bool
word_truth t = if is_true_word t then Ok true else if is_false_word t then Ok false else Err (error (not_a_boolean t))

abbrev pub truth_of : Text → Numeral → Answer Bool
truth_of t (numerals.Whole z) = Ok (not (is_zero z))
truth_of t numerals.TooLarge = Err number_too_large
truth_of t numerals.Fraction = Err fraction
truth_of t numerals.Text = word_truth t

abbrev pub truth : Text → Answer Bool
truth t = truth_of t (numeral t)

-- a truth value as a text
abbrev pub truth_text : Bool → Text
truth_text b = if b then codes "1" else codes "0"

-- a number in decimal
abbrev pub decimal_text : ℤ → Answer Text
decimal_text z = Ok (signed_decimal z)

-- the value of an operator before its operand
abbrev pub unary_value : UnaryOperator → Text → Answer Text
unary_value Minus t = whole_operand (unary_symbol Minus) t >>= (λ z. within_64_bits (neg_ℤ z)) >>= decimal_text
unary_value Plus t = whole_operand (unary_symbol Plus) t >>= decimal_text
unary_value Complement t = whole_operand (unary_symbol Complement) t >>= (λ z. decimal_text (bitwise_not z))
unary_value Not t = truth t >>= (λ b. Ok (truth_text (not b)))

-- two operands that have to be whole numbers, and the value that an operator computes of them
abbrev pub whole_operands : Text → Text → Text → Answer (ℤ × ℤ)
whole_operands symbol a b = whole_operand symbol a >>= (λ x. whole_operand symbol b >>= (λ y. Ok (x, y)))

abbrev pub computed : BinaryOperator → (ℤ → ℤ → Answer ℤ) → Text → Text → Answer Text
computed op compute a b = whole_operands (binary_symbol op) a b >>= (λ o. compute o.0 o.1) >>= decimal_text

-- the order of operands: as numbers where both are, else as texts by the code points of their characters
abbrev pub text_order : Text → Text → Ordering
text_order a b = slice_cmp nat_cmp (chars a) (chars b)

abbrev pub order_among : Text → Text → Option ℤ → Option ℤ → Ordering
order_among a b (Some x) (Some y) = int_cmp x y
order_among a b (Some x) None = text_order a b
order_among a b None y = text_order a b

abbrev pub order_of : Text → Text → Answer Ordering
order_of a b = number_operand a >>= (λ x. number_operand b >>= (λ y. Ok (order_among a b x y)))

-- whether the order of two operands passes a test, as a text
abbrev pub compared : (Ordering → Bool) → Text → Text → Answer Text
compared holds a b = order_of a b >>= (λ o. Ok (truth_text (holds o)))

-- whether a text is an element of a list
abbrev pub found_in : Text → Text → Answer Bool
found_in sought l = elements_of l >>= (λ es. Ok (list_any (bytes_eq sought) es))

-- the value of an operator between its operands
abbrev pub binary_value : BinaryOperator → Text → Text → Answer Text
binary_value binary.Multiply a b = computed binary.Multiply product a b
binary_value binary.Divide a b = computed binary.Divide quotient_value a b
binary_value binary.Remainder a b = computed binary.Remainder remainder_value a b
binary_value binary.Add a b = computed binary.Add sum a b
binary_value binary.Subtract a b = computed binary.Subtract difference a b
binary_value binary.ShiftLeft a b = computed binary.ShiftLeft shifted_left a b
binary_value binary.ShiftRight a b = computed binary.ShiftRight shifted_right a b
binary_value binary.Less a b = compared is_lt a b
binary_value binary.Greater a b = compared is_gt a b
binary_value binary.LessEqual a b = compared is_le a b
binary_value binary.GreaterEqual a b = compared is_ge a b
binary_value binary.Equal a b = compared is_eq a b
binary_value binary.NotEqual a b = compared is_ne a b
binary_value binary.TextEqual a b = Ok (truth_text (bytes_eq a b))
binary_value binary.TextNotEqual a b = Ok (truth_text (not (bytes_eq a b)))
binary_value binary.In a b = found_in a b >>= (λ found. Ok (truth_text found))
binary_value binary.NotIn a b = found_in a b >>= (λ found. Ok (truth_text (not found)))
binary_value binary.BitAnd a b = computed binary.BitAnd (λ x y. Ok (bitwise_and x y)) a b
binary_value binary.BitXor a b = computed binary.BitXor (λ x y. Ok (bitwise_xor x y)) a b
binary_value binary.BitOr a b = computed binary.BitOr (λ x y. Ok (bitwise_or x y)) a b
