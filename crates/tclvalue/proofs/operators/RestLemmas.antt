-- The remainder of expr(n), by the rest that is rounded towards zero, which the program computes.
use Rattle.std.proofs.Common.{◌≡◌, ℕ, zero, suc, ◌+◌, ◌-◌, ◌*◌, ◌/◌, ◌%◌, ◌^◌, ◌<◌, min, Bool, true, false}
use Rattle.std.proofs.Common.{if◌then◌else◌, ℤ, pos, negsuc, neg_ℤ, ◌+ℤ◌, ◌-ℤ◌, w64, to_z, of_z, FitsSigned, Ok, refl}
use Rattle.std.proofs.Common.{sym, subst, ap, ◌∙◌, inl, inr, arith}
use Rattle.std.specs.Int.{div_ceil}
use Rattle.std.specs.Prelude.{int_lt, int_rem}
use Rattle.std.proofs.lemmas.Bool.{cases_lt, le-ltb}
use Rattle.std.proofs.lemmas.Int.{ints, to_z-of_z}
use mathlib.Core.Bool.{beq}
use Rattle.tclvalue.specs.operators.Numbers.{remainder, remainder_value, is_zero}
use Rattle.tclvalue.proofs.operators.DivisionLemmas.{parts, both_below, one_below}
use Rattle.tclvalue.proofs.operators.NumberLemmas.{fitting}

-- two numbers are both below 0, or both not
abbrev pub alike : ℤ → ℤ → Bool
alike r b = beq (int_lt r (pos 0)) (int_lt b (pos 0))

-- the remainder of this divisor, by that rounded towards zero
abbrev pub settled : ℤ → ℤ → ℤ
settled r b = if is_zero r then pos 0 else if alike r b then r else r +ℤ b

not_below_zero : (n : ℕ) → int_lt (pos n) (pos 0) ≡ false
not_below_zero n = le-ltb n 0 (omega arith)

none : min 1 0 ≡ 0
none = omega arith

one : (m : ℕ) → min 1 (suc m) ≡ 1
one m = omega arith

above_above : (q m b a : ℕ) → suc b * q + m ≡ a → pos a -ℤ pos (q * suc b) ≡ settled (pos m) (pos (suc b))
above_above q zero b a e = omega (arith, ints)
above_above q (suc m) b a e = rw (not_below_zero (suc m), not_below_zero (suc b)) (omega (arith, ints))

above_below : (q m b a : ℕ) → suc b * q + m ≡ a → pos a -ℤ pos ((q + min 1 m) * suc b) ≡ settled (pos m) (negsuc b)
above_below q zero b a e = rw none (omega (arith, ints))
above_below q (suc m) b a e = rw (one m, not_below_zero (suc m)) (omega (arith, ints))

below_above : (q m b a : ℕ) → suc b * q + m ≡ suc a → negsuc a -ℤ neg_ℤ (pos ((q + min 1 m) * suc b)) ≡ settled (neg_ℤ (pos m)) (pos (suc b))
below_above q zero b a e = rw none (omega (arith, ints))
below_above q (suc m) b a e = rw (one m, not_below_zero (suc b)) (omega (arith, ints))

below_below : (q m b a : ℕ) → suc b * q + m ≡ suc a → negsuc a -ℤ neg_ℤ (pos (q * suc b)) ≡ settled (neg_ℤ (pos m)) (negsuc b)
below_below q zero b a e = omega (arith, ints)
below_below q (suc m) b a e = omega (arith, ints)

settled_is : (a b : ℤ) → is_zero b ≡ false → remainder a b ≡ settled (int_rem a b) b
settled_is (pos a) (pos zero) h = absurd (let e : ⊥ = cc in e)
settled_is (pos a) (pos (suc b)) h = above_above (a / suc b) (a % suc b) b a (parts a (suc b) (omega arith))
settled_is (pos a) (negsuc b) h =
    subst (λ p. pos a -ℤ p ≡ settled (int_rem (pos a) (negsuc b)) (negsuc b)) (sym (both_below (div_ceil a (suc b)) b))
    (above_below (a / suc b) (a % suc b) b a (parts a (suc b) (omega arith)))
settled_is (negsuc a) (pos zero) h = absurd (let e : ⊥ = cc in e)
settled_is (negsuc a) (pos (suc b)) h =
    subst (λ p. negsuc a -ℤ p ≡ settled (int_rem (negsuc a) (pos (suc b))) (pos (suc b))) (sym (one_below (div_ceil (suc a) (suc b)) (suc b)))
    (below_above (suc a / suc b) (suc a % suc b) b a (parts (suc a) (suc b) (omega arith)))
settled_is (negsuc a) (negsuc b) h = below_below (suc a / suc b) (suc a % suc b) b a (parts (suc a) (suc b) (omega arith))

-- a number is 0 where its word is
some : (z : ℤ) → (of_z w64 z ≡ 0 → ⊥) → is_zero z ≡ false
some (pos zero) h = absurd (h refl)
some (pos (suc n)) h = refl
some (negsuc n) h = refl

-- where a rest and a divisor lie on both sides of 0, their sum has 64 bits
apart : (n d : ℕ) → n < 2 ^ 63 → d < 2 ^ 63 → FitsSigned w64 (pos n +ℤ negsuc d)
apart n d f g = elim (cases_lt d n) [
  | inl h ↦ subst (FitsSigned w64) (let e : pos (n - suc d) ≡ pos n +ℤ negsuc d = omega (arith, ints) in e) (record { sfits = (let l : n - suc d < 2 ^ 63 = omega arith in l) })
  | inr h ↦ subst (FitsSigned w64) (let e : negsuc (d - n) ≡ pos n +ℤ negsuc d = omega (arith, ints) in e) (record { sfits = (let l : d - n < 2 ^ 63 = omega arith in l) })
]

sum_fits : (r b : ℤ) → FitsSigned w64 r → FitsSigned w64 b → alike r b ≡ false → FitsSigned w64 (r +ℤ b)
sum_fits (pos r) (pos b) f g h = absurd (let e : true ≡ false = ap (λ x. beq false x) (sym (not_below_zero b)) ∙ (ap (λ x. beq x (int_lt (pos b) (pos 0))) (sym (not_below_zero r)) ∙ h) in cc)
sum_fits (pos r) (negsuc b) f g h = apart r b f.sfits g.sfits
sum_fits (negsuc r) (pos b) f g h = subst (FitsSigned w64) (let e : pos b +ℤ negsuc r ≡ negsuc r +ℤ pos b = omega (arith, ints) in e) (apart b r g.sfits f.sfits)
sum_fits (negsuc r) (negsuc b) f g h = absurd (let e : true ≡ false = h in cc)

-- a number of 64 bits, as the program reads it
abbrev pub read : ℤ → ℤ
read z = to_z w64 (of_z w64 z)

alike_read : (r b : ℤ) (same : Bool) → FitsSigned w64 r → FitsSigned w64 b → alike (read r) (read b) ≡ same → alike r b ≡ same
alike_read r b same f g h = ap (λ x. alike x b) (sym (to_z-of_z w64 r f)) ∙ (ap (alike (read r)) (sym (to_z-of_z w64 b g)) ∙ h)

sum_read : (r b : ℤ) → FitsSigned w64 r → FitsSigned w64 b → r +ℤ b ≡ read r +ℤ read b
sum_read r b f g = ap (λ x. x +ℤ b) (sym (to_z-of_z w64 r f)) ∙ ap (λ x. read r +ℤ x) (sym (to_z-of_z w64 b g))

pub word_sum_fits : (r b : ℤ) → FitsSigned w64 r → FitsSigned w64 b → alike (read r) (read b) ≡ false → FitsSigned w64 (read r +ℤ read b)
word_sum_fits r b f g h = subst (FitsSigned w64) (sum_read r b f g) (sum_fits r b f g (alike_read r b false f g h))

-- the remainder by the rest that the program has computed
settled_value : (a b r z : ℤ) → FitsSigned w64 a → FitsSigned w64 b → r ≡ int_rem (read a) (read b) → (of_z w64 b ≡ 0 → ⊥) → settled r b ≡ z → FitsSigned w64 z → remainder_value a b ≡ Ok z
settled_value a b r z f g is h e k =
    let rem : r ≡ int_rem a b = is ∙ (ap (λ x. int_rem x (read b)) (to_z-of_z w64 a f) ∙ ap (int_rem a) (to_z-of_z w64 b g)) in
    let all : remainder a b ≡ z = settled_is a b (some b h) ∙ (ap (λ x. settled x b) (sym rem) ∙ e) in
    rw (some b h, all) (fitting z k)

pub no_rest : (a b r : ℤ) → FitsSigned w64 a → FitsSigned w64 b → FitsSigned w64 r → r ≡ int_rem (read a) (read b) → (of_z w64 b ≡ 0 → ⊥) → of_z w64 r ≡ 0 → remainder_value a b ≡ Ok (pos 0)
no_rest a b r f g k is h e =
    let zero_rest : r ≡ pos 0 = sym (to_z-of_z w64 r k) ∙ ap (to_z w64) e in
    settled_value a b r (pos 0) f g is h (rw zero_rest refl) (record { sfits = (let l : 0 < 2 ^ 63 = omega arith in l) })

pub rest_alike : (a b r : ℤ) → FitsSigned w64 a → FitsSigned w64 b → FitsSigned w64 r → r ≡ int_rem (read a) (read b)
    → (of_z w64 b ≡ 0 → ⊥) → (of_z w64 r ≡ 0 → ⊥) → alike (read r) (read b) ≡ true → remainder_value a b ≡ Ok (read r)
rest_alike a b r f g k is h n e =
    settled_value a b r r f g is h (rw (some r n, alike_read r b true k g e) refl) k ∙ ap Ok (sym (to_z-of_z w64 r k))

pub rest_apart : (a b r : ℤ) → FitsSigned w64 a → FitsSigned w64 b → FitsSigned w64 r → r ≡ int_rem (read a) (read b)
    → (of_z w64 b ≡ 0 → ⊥) → (of_z w64 r ≡ 0 → ⊥) → alike (read r) (read b) ≡ false
    → remainder_value a b ≡ Ok (read (read r +ℤ read b))
rest_apart a b r f g k is h n e =
    settled_value a b r (r +ℤ b) f g is h (rw (some r n, alike_read r b false k g e) refl) (sum_fits r b k g (alike_read r b false k g e))
    ∙ ap Ok (sum_read r b k g ∙ sym (to_z-of_z w64 (read r +ℤ read b) (word_sum_fits r b k g e)))
