-- Quotients that are rounded down, and what they leave.
use Rattle.std.proofs.Common.{◌≡◌, ℕ, zero, suc, ◌+◌, ◌*◌, ◌/◌, ◌%◌, ◌<◌, ◌≤◌, min, false, ℤ, pos, negsuc, neg_ℤ, ◌+ℤ◌}
use Rattle.std.proofs.Common.{◌-ℤ◌, ◌*ℤ◌, ◌≤ℤ◌, ◌<ℤ◌, refl, sym, subst, arith, zero-mul}
use Rattle.std.specs.Int.{div_ceil}
use Rattle.std.proofs.lemmas.Int.{ints}
use Rattle.tcltext.specs.chars.Division.{quotient}
use Rattle.tclvalue.specs.operators.Numbers.{remainder, IsRemainder, is_zero}

pub whole_is : (a b : ℤ) → quotient a b *ℤ b +ℤ remainder a b ≡ a
whole_is a b = again a (quotient a b *ℤ b)
  where
    again : (a p : ℤ) → p +ℤ (a -ℤ p) ≡ a
    again a p = omega (arith, ints)

raised_low : (q m d a : ℕ) → d * q + m ≡ a → m < d → a ≤ (q + min 1 m) * d
raised_low q zero d a e h = rw (let f : min 1 0 ≡ 0 = omega arith in f) (omega arith)
raised_low q (suc m) d a e h = rw (let f : min 1 (suc m) ≡ 1 = omega arith in f) (omega arith)

raised_high : (q m d a : ℕ) → d * q + m ≡ a → m < d → (q + min 1 m) * d < a + d
raised_high q zero d a e h = rw (let f : min 1 0 ≡ 0 = omega arith in f) (omega arith)
raised_high q (suc m) d a e h = rw (let f : min 1 (suc m) ≡ 1 = omega arith in f) (omega arith)

pub parts : (a d : ℕ) → 0 < d → d * (a / d) + a % d ≡ a
parts a d h = omega arith

below : (a d : ℕ) → 0 < d → a % d < d
below a d h = omega arith

low_rest : (a p d : ℕ) → p ≤ a → a < p + d → (pos 0 ≤ℤ (pos a -ℤ pos p)) × ((pos a -ℤ pos p) <ℤ pos d)
low_rest a p d h k = (omega (arith, ints), omega (arith, ints))

high_rest : (a p b : ℕ) → a ≤ p → p < a + suc b → (negsuc b <ℤ (pos a -ℤ pos p)) × ((pos a -ℤ pos p) ≤ℤ pos 0)
high_rest a p b h k = (omega (arith, ints), omega (arith, ints))

low_rest_below : (a p d : ℕ) → suc a ≤ p → p < suc a + d → (pos 0 ≤ℤ (negsuc a -ℤ neg_ℤ (pos p))) × ((negsuc a -ℤ neg_ℤ (pos p)) <ℤ pos d)
low_rest_below a p d h k = (omega (arith, ints), omega (arith, ints))

high_rest_below : (a p b : ℕ) → p ≤ suc a → suc a < p + suc b → (negsuc b <ℤ (negsuc a -ℤ neg_ℤ (pos p))) × ((negsuc a -ℤ neg_ℤ (pos p)) ≤ℤ pos 0)
high_rest_below a p b h k = (omega (arith, ints), omega (arith, ints))

pub both_below : (c b : ℕ) → neg_ℤ (pos c) *ℤ negsuc b ≡ pos (c * suc b)
both_below zero b = rw zero-mul refl
both_below (suc c) b = refl

pub one_below : (c d : ℕ) → neg_ℤ (pos c) *ℤ pos d ≡ neg_ℤ (pos (c * d))
one_below zero d = rw zero-mul refl
one_below (suc c) d = refl

pub rest_is : (a b : ℤ) → is_zero b ≡ false → IsRemainder b (remainder a b)
rest_is (pos a) (pos zero) h = absurd (let e : ⊥ = cc in e)
rest_is (pos a) (pos (suc b)) h =
    let some : 0 < suc b = omega arith in
    low_rest a (a / suc b * suc b) (suc b) (omega (arith, parts a (suc b) some)) (omega (arith, parts a (suc b) some, below a (suc b) some))
rest_is (pos a) (negsuc b) h =
    let some : 0 < suc b = omega arith in
    subst (λ p. IsRemainder (negsuc b) (pos a -ℤ p)) (sym (both_below (div_ceil a (suc b)) b))
    (high_rest a (div_ceil a (suc b) * suc b) b
    (raised_low (a / suc b) (a % suc b) (suc b) a (parts a (suc b) some) (below a (suc b) some))
    (raised_high (a / suc b) (a % suc b) (suc b) a (parts a (suc b) some) (below a (suc b) some)))
rest_is (negsuc a) (pos zero) h = absurd (let e : ⊥ = cc in e)
rest_is (negsuc a) (pos (suc b)) h =
    let some : 0 < suc b = omega arith in
    subst (λ p. IsRemainder (pos (suc b)) (negsuc a -ℤ p)) (sym (one_below (div_ceil (suc a) (suc b)) (suc b)))
    (low_rest_below a (div_ceil (suc a) (suc b) * suc b) (suc b)
    (raised_low (suc a / suc b) (suc a % suc b) (suc b) (suc a) (parts (suc a) (suc b) some) (below (suc a) (suc b) some))
    (raised_high (suc a / suc b) (suc a % suc b) (suc b) (suc a) (parts (suc a) (suc b) some) (below (suc a) (suc b) some)))
rest_is (negsuc a) (negsuc b) h =
    let some : 0 < suc b = omega arith in
    high_rest_below a (suc a / suc b * suc b) b (omega (arith, parts (suc a) (suc b) some)) (omega (arith, parts (suc a) (suc b) some, below (suc a) (suc b) some))
