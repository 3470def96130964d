-- Arithmetic of expr(n), OPERATORS, over whole numbers without bound; a result outside 64 bits is a reason.
use Rattle.std.specs.Prelude.{◌≡◌, ℕ, zero, suc, ◌^◌, ◌<◌, Bool, true, false, not, ◌&&◌, ◌||◌, if◌then◌else◌, Ok, Err}
use Rattle.std.specs.Prelude.{ℤ, pos, negsuc, neg_ℤ, ◌-ℤ◌, ◌*ℤ◌, ◌+ℤ◌, ◌≤ℤ◌, ◌<ℤ◌}
use Rattle.std.specs.Int.{w64, int_bit_and, int_bit_or, int_bit_xor}
use Rattle.tcltext.specs.chars.Division.{fits, quotient}
use Rattle.tclvalue.specs.operators.Faults.{Answer, error, number_too_large}
use Rattle.tclvalue.specs.operators.Messages.{divide_by_zero, negative_shift}

-- the number, or the reason that it lies outside 64 bits
abbrev pub within_64_bits : ℤ → Answer ℤ
within_64_bits z = if fits z then Ok z else Err number_too_large

-- the rest of the quotient; its sign is that of b
abbrev pub remainder : ℤ → ℤ → ℤ
remainder a b = a -ℤ quotient a b *ℤ b

-- a remainder has the divisor's sign, and is nearer to 0
abbrev pub IsRemainder : ℤ → ℤ → Type 0
IsRemainder (pos b) r = (pos 0 ≤ℤ r) × (r <ℤ pos b)
IsRemainder (negsuc b) r = (negsuc b <ℤ r) × (r ≤ℤ pos 0)

abbrev pub is_zero : ℤ → Bool
is_zero (pos zero) = true
is_zero (pos (suc n)) = false
is_zero (negsuc n) = false

-- the value of an operator with this divisor; 0 is an error
abbrev pub unless_zero : ℤ → ℤ → Answer ℤ
unless_zero b z = if is_zero b then Err (error divide_by_zero) else within_64_bits z

-- the values of + - * / %
abbrev pub sum : ℤ → ℤ → Answer ℤ
sum a b = within_64_bits (a +ℤ b)

abbrev pub difference : ℤ → ℤ → Answer ℤ
difference a b = within_64_bits (a -ℤ b)

abbrev pub product : ℤ → ℤ → Answer ℤ
product a b = within_64_bits (a *ℤ b)

abbrev pub quotient_value : ℤ → ℤ → Answer ℤ
quotient_value a b = unless_zero b (quotient a b)

abbrev pub remainder_value : ℤ → ℤ → Answer ℤ
remainder_value a b = unless_zero b (remainder a b)

-- the values of << and >>: times a power of two, and divided by it, rounded down
abbrev pub shifted_left : ℤ → ℤ → Answer ℤ
shifted_left a (pos k) = within_64_bits (a *ℤ pos (2 ^ k))
shifted_left a (negsuc k) = Err (error negative_shift)

abbrev pub shifted_right : ℤ → ℤ → Answer ℤ
shifted_right a (pos k) = within_64_bits (quotient a (pos (2 ^ k)))
shifted_right a (negsuc k) = Err (error negative_shift)

-- the values of & ^ | ~ on two's complement of 64 bits; the law bits has what each makes of one bit
abbrev pub bitwise_and : ℤ → ℤ → ℤ
bitwise_and a b = int_bit_and w64 a b

abbrev pub bitwise_xor : ℤ → ℤ → ℤ
bitwise_xor a b = int_bit_xor w64 a b

abbrev pub bitwise_or : ℤ → ℤ → ℤ
bitwise_or a b = int_bit_or w64 a b

abbrev pub bitwise_not : ℤ → ℤ
bitwise_not a = neg_ℤ a -ℤ pos 1

-- the bit of a number for 2 ^ k: whether the number divided by that power of two, rounded down, is odd
abbrev pub has_bit : ℤ → ℕ → Bool
has_bit a k = not (is_zero (remainder (quotient a (pos (2 ^ k))) (pos 2)))

-- one of the two, and not both
abbrev pub exactly_one : Bool → Bool → Bool
exactly_one x y = x && not y || not x && y

-- of two numbers of 64 bits the operator makes one whose bits this test makes of theirs
abbrev pub MakesEachBit : (Bool → Bool → Bool) → (ℤ → ℤ → ℤ) → Type 0
MakesEachBit test op = (a b : ℤ) → fits a ≡ true → fits b ≡ true
    → (fits (op a b) ≡ true) × ((k : ℕ) → k < 64 → has_bit (op a b) k ≡ test (has_bit a k) (has_bit b k))

-- numbers of 64 bits with the same bits are equal
abbrev pub IsDeterminedByBits : Type 0
IsDeterminedByBits = (a b : ℤ) → fits a ≡ true → fits b ≡ true → ((k : ℕ) → k < 64 → has_bit a k ≡ has_bit b k) → a ≡ b
