-- Quotients by powers of two, and the bits of numbers.
use Rattle.std.proofs.Common.{◌≡◌, ℕ, zero, suc, ◌+◌, ◌-◌, ◌*◌, ◌/◌, ◌%◌, ◌^◌, ◌<◌, ◌≤◌, min, max, Bool, true, false}
use Rattle.std.proofs.Common.{not, nat_lt, ℤ, pos, negsuc, neg_ℤ, w64, to_z, of_z, FitsSigned, refl, sym, ap, ◌∙◌}
use Rattle.std.proofs.Common.{arith, inl, inr}
use Rattle.std.specs.Prelude.{◌==◌, ◌&&◌, ◌||◌, bit_and, bit_or, bit_xor}
use Rattle.std.specs.Int.{div_ceil, int_shr, bit_at}
use Rattle.std.proofs.Math.Nat.{mul-le-mul_right}
use Rattle.std.proofs.lemmas.Bool.{cases_lt, ltb-true, lt-ltb}
use Rattle.std.proofs.lemmas.Bool.Decides.{nat_tests}
use Rattle.std.proofs.lemmas.Int.{ints, to_z-of_z, of_z-to_z}
use Rattle.std.proofs.lemmas.Grind.{div_ceil_times}
use Rattle.std.proofs.lemmas.Nat.{pow_pos, and_le_l, or_lt, xor_lt}
use mir.Val.{sel}
use Rattle.std.proofs.lemmas.Nat.Bits.{bit_at-lt, bit_at_not, bit_at_and, bit_at_or, bit_at_xor, same_from_bits_below}
use Rattle.tcltext.specs.chars.Division.{fits, quotient}
use Rattle.tclvalue.specs.operators.Numbers.{remainder, is_zero, has_bit, exactly_one, bitwise_not, bitwise_and, bitwise_or}
use Rattle.tclvalue.specs.operators.Numbers.{bitwise_xor, MakesEachBit, IsDeterminedByBits}

-- a number between two multiples
one_multiple : (c q d n m : ℕ) → d * q + m ≡ n → m < d → suc n ≤ c * d → c * d < suc n + d → c ≡ suc q
one_multiple c q d n m e h low high = elim (cases_lt c (suc q)) [
  | inl less ↦ absurd (let p : c * d ≤ q * d = mul-le-mul_right {m = c} {n = q} d (omega arith) in omega arith)
  | inr more ↦ elim (cases_lt (suc q) c) [
    | inl above ↦ absurd (let p : suc (suc q) * d ≤ c * d = mul-le-mul_right {m = suc (suc q)} {n = c} d (omega arith) in omega arith)
    | inr same ↦ omega arith
  ]
]

pub ceil_is : (n d : ℕ) → 0 < d → div_ceil (suc n) d ≡ suc (n / d)
ceil_is n d some =
    let whole : d * (n / d) + n % d ≡ n = omega arith in
    let rest : n % d < d = omega arith in
    let between = div_ceil_times (suc n) d some in
    one_multiple (div_ceil (suc n) d) (n / d) d n (n % d) whole rest between.0 between.1

-- a shift to the right is a quotient
pub shifted_quotient : (z : ℤ) (k : ℕ) → int_shr z k ≡ quotient z (pos (2 ^ k))
shifted_quotient (pos n) k = refl
shifted_quotient (negsuc n) k = sym (ap (λ c. neg_ℤ (pos c)) (ceil_is n (2 ^ k) (pow_pos k)))

low_bit : (a : ℕ) → remainder (pos a) (pos 2) ≡ pos (a % 2)
low_bit a = omega (arith, ints)

low_bit_below : (a : ℕ) → remainder (negsuc a) (pos 2) ≡ pos (1 - a % 2)
low_bit_below a = rw (ceil_is a 2 (omega arith)) (omega (arith, ints))

is_one : (m : ℕ) → m < 2 → not (is_zero (pos m)) ≡ (m == 1)
is_one zero h = refl
is_one (suc zero) h = refl
is_one (suc (suc m)) h = absurd (omega arith)

bit_above : (n k : ℕ) → has_bit (pos n) k ≡ (bit_at n k == 1)
bit_above n k = ap (λ r. not (is_zero r)) (low_bit (n / 2 ^ k)) ∙ is_one (bit_at n k) (bit_at-lt n k)

bit_below : (n k : ℕ) → has_bit (negsuc n) k ≡ (1 - bit_at n k == 1)
bit_below n k =
    ap (λ q. not (is_zero (remainder q (pos 2)))) (sym (shifted_quotient (negsuc n) k))
    ∙ ap (λ r. not (is_zero r)) (low_bit_below (n / 2 ^ k)) ∙ is_one (1 - bit_at n k) (omega arith)

-- the bits of a number are those of its word of 64 bits
bit_in_word : (z : ℤ) (k : ℕ) → FitsSigned w64 z → k < 64 → has_bit z k ≡ (bit_at (of_z w64 z) k == 1)
bit_in_word (pos n) k f h = bit_above n k
bit_in_word (negsuc n) k f h =
    let small : n < 2 ^ 63 = f.sfits in
    bit_below n k
    ∙ ap (λ b. b == 1) (sym (bit_at_not w64 n k (omega arith) h))
    ∙ ap (λ m. bit_at m k == 1) (let e : 2 ^ 64 - 1 - n ≡ of_z w64 (negsuc n) = omega arith in e)

small : (z : ℤ) → FitsSigned w64 z → of_z w64 z < 2 ^ 64
small (pos n) f = let h : n < 2 ^ 63 = f.sfits in omega arith
small (negsuc n) f = omega arith

fitting : (z : ℤ) → fits z ≡ true → FitsSigned w64 z
fitting (pos n) h = record { sfits = ltb-true n (2 ^ 63) h }
fitting (negsuc n) h = record { sfits = ltb-true n (2 ^ 63) h }

word_fits : (n : ℕ) → fits (to_z w64 n) ≡ true
word_fits n = chosen (nat_lt n (2 ^ 63)) refl
  where
    chosen : (t : Bool) → nat_lt n (2 ^ 63) ≡ t → fits (sel t (pos n) (negsuc (2 ^ 64 - suc n))) ≡ true
    chosen true h = h
    chosen false h = lt-ltb (2 ^ 64 - suc n) (2 ^ 63) (let p : 2 ^ 63 ≤ n = grind (arith, nat_tests) in omega arith)

-- ~ of a number
others_above : (n : ℕ) → bitwise_not (pos n) ≡ negsuc n
others_above n = omega (arith, ints)

others_below : (n : ℕ) → bitwise_not (negsuc n) ≡ pos n
others_below n = omega (arith, ints)

turned : (m : ℕ) → m < 2 → (1 - m == 1) ≡ not (m == 1)
turned zero h = refl
turned (suc zero) h = refl
turned (suc (suc m)) h = absurd (omega arith)

turned_back : (m : ℕ) → m < 2 → (m == 1) ≡ not (1 - m == 1)
turned_back zero h = refl
turned_back (suc zero) h = refl
turned_back (suc (suc m)) h = absurd (omega arith)

pub others_bit : (a : ℤ) (k : ℕ) → has_bit (bitwise_not a) k ≡ not (has_bit a k)
others_bit (pos n) k =
    ap (λ z. has_bit z k) (others_above n) ∙ bit_below n k ∙ turned (bit_at n k) (bit_at-lt n k) ∙ ap not (sym (bit_above n k))
others_bit (negsuc n) k =
    ap (λ z. has_bit z k) (others_below n) ∙ bit_above n k ∙ turned_back (bit_at n k) (bit_at-lt n k) ∙ ap not (sym (bit_below n k))

both_test : (x y : ℕ) → x < 2 → y < 2 → (min x y == 1) ≡ ((x == 1) && (y == 1))
both_test x y h k = grind (arith, nat_tests)

either_test : (x y : ℕ) → x < 2 → y < 2 → (max x y == 1) ≡ ((x == 1) || (y == 1))
either_test x y h k = grind (arith, nat_tests)

one_test : (x y : ℕ) → x < 2 → y < 2 → ((x + y) % 2 == 1) ≡ exactly_one (x == 1) (y == 1)
one_test zero zero h k = refl
one_test zero (suc zero) h k = refl
one_test (suc zero) zero h k = refl
one_test (suc zero) (suc zero) h k = refl
one_test (suc (suc x)) y h k = absurd (omega arith)
one_test x (suc (suc y)) h k = absurd (omega arith)

-- an operator on words that makes each bit of theirs
pub each_bit : (op f : ℕ → ℕ → ℕ) (test : Bool → Bool → Bool)
    → ((x y : ℕ) → x < 2 ^ 64 → y < 2 ^ 64 → op x y < 2 ^ 64)
    → ((x y k : ℕ) → bit_at (op x y) k ≡ f (bit_at x k) (bit_at y k))
    → ((x y : ℕ) → x < 2 → y < 2 → (f x y == 1) ≡ test (x == 1) (y == 1))
    → MakesEachBit test (λ a b. to_z w64 (op (of_z w64 a) (of_z w64 b)))
each_bit op f test below bits tests a b fa fb = (word_fits made, at)
  where
    x : ℕ
    x = of_z w64 a

    y : ℕ
    y = of_z w64 b

    made : ℕ
    made = op x y

    at : (k : ℕ) → k < 64 → has_bit (to_z w64 made) k ≡ test (has_bit a k) (has_bit b k)
    at k h =
        bit_in_word (to_z w64 made) k (fitting (to_z w64 made) (word_fits made)) h
        ∙ ap (λ m. bit_at m k == 1) (of_z-to_z w64 made (below x y (small a (fitting a fa)) (small b (fitting b fb))))
        ∙ ap (λ m. m == 1) (bits x y k)
        ∙ tests (bit_at x k) (bit_at y k) (bit_at-lt x k) (bit_at-lt y k)
        ∙ ap (λ t. test t (bit_at y k == 1)) (sym (bit_in_word a k (fitting a fa) h))
        ∙ ap (test (has_bit a k)) (sym (bit_in_word b k (fitting b fb) h))

pub both_bits : MakesEachBit (λ x y. x && y) bitwise_and
both_bits = each_bit bit_and min (λ x y. x && y) (λ x y h k. let p : bit_and x y ≤ x = and_le_l x y in omega arith) bit_at_and both_test

pub either_bits : MakesEachBit (λ x y. x || y) bitwise_or
either_bits = each_bit bit_or max (λ x y. x || y) (or_lt 64) bit_at_or either_test

pub one_bits : MakesEachBit exactly_one bitwise_xor
one_bits = each_bit bit_xor (λ x y. (x + y) % 2) exactly_one (xor_lt 64) bit_at_xor one_test

one_or_none : (x y : ℕ) → x < 2 → y < 2 → (x == 1) ≡ (y == 1) → x ≡ y
one_or_none x y h k e = grind (arith, nat_tests)

pub given_by_bits : IsDeterminedByBits
given_by_bits a b fa fb same =
    sym (to_z-of_z w64 a (fitting a fa))
    ∙ ap (to_z w64) (same_from_bits_below 64 (of_z w64 a) (of_z w64 b) (small a (fitting a fa)) (small b (fitting b fb)) at)
    ∙ to_z-of_z w64 b (fitting b fb)
  where
    at : (k : ℕ) → k < 64 → bit_at (of_z w64 a) k ≡ bit_at (of_z w64 b) k
    at k h =
        one_or_none (bit_at (of_z w64 a) k) (bit_at (of_z w64 b) k) (bit_at-lt (of_z w64 a) k) (bit_at-lt (of_z w64 b) k)
        (sym (bit_in_word a k (fitting a fa) h) ∙ same k h ∙ bit_in_word b k (fitting b fb) h)
