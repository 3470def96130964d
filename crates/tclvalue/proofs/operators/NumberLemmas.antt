-- What the arithmetic of 64 bits gives is what is computed over all whole numbers.
use Rattle.std.proofs.Common.{◌≡◌, ℕ, zero, suc, ◌*◌, ◌/◌, ◌%◌, ◌^◌, ◌<◌, ◌≤◌, ◌⊎◌, false, nat_lt, min, ℤ, pos, negsuc}
use Rattle.std.proofs.Common.{neg_ℤ, ◌*ℤ◌, w64, to_z, of_z, FitsSigned, Option, Some, None, Ok, Err, refl, sym, ap, inl}
use Rattle.std.proofs.Common.{inr, lit<, ◌∙◌, arith}
use Rattle.std.specs.Option.{SomeIff, ok_or}
use Rattle.std.specs.Int.{int_shr}
use lib.Signed.{mag, mag_shr}
use Rattle.std.proofs.lemmas.Bool.{lt-ltb, le-ltb, cases_lt}
use Rattle.std.proofs.lemmas.Int.{to_z-of_z, to_z_pos}
use Rattle.std.proofs.lemmas.Nat.{pow_below}
use Rattle.std.proofs.Math.Nat.{pow-le-pow_right, mul-le-mul_right, div-eq_of_lt}
use Rattle.message.specs.Answers.{Gives}
use Rattle.tclvalue.specs.operators.Faults.{reason_of, number_too_large}
use Rattle.tclvalue.specs.operators.Numbers.{within_64_bits}
use Rattle.tclvalue.specs.declared.operators.fault.ValueFault.TheVariants.{NumberTooLarge}

pub fitting : (z : ℤ) → FitsSigned w64 z → within_64_bits z ≡ Ok z
fitting (pos n) f = rw (lt-ltb n (2 ^ 63) f.sfits) refl
fitting (negsuc n) f = rw (lt-ltb n (2 ^ 63) f.sfits) refl

outside : (n : ℕ) → 2 ^ 63 ≤ n → nat_lt n (2 ^ 63) ≡ false
outside n h = le-ltb n (2 ^ 63) h

not_below : (n : ℕ) → (n < 2 ^ 63 → ⊥) → 2 ^ 63 ≤ n
not_below n high = elim (cases_lt n (2 ^ 63)) [ inl h ↦ absurd (high h) | inr h ↦ h ]

unfitting : (z : ℤ) → (FitsSigned w64 z → ⊥) → within_64_bits z ≡ Err number_too_large
unfitting (pos n) f = rw (outside n (not_below n (λ h. f (record { sfits = h })))) refl
unfitting (negsuc n) f = rw (outside n (not_below n (λ h. f (record { sfits = h })))) refl

-- a checked result is that within 64 bits
pub checked : (r : Option ℤ) (z : ℤ) → SomeIff r (FitsSigned w64 z) z → Gives reason_of (λ x. x) (ok_or r NumberTooLarge) (within_64_bits z)
checked None z beyond = unfitting z beyond
checked (Some x) z is = fitting z is.0 ∙ ap Ok (sym is.1)

-- a power of two in 64 bits
pub one_shifted : (k : ℕ) → k < 63 → to_z w64 ((1 * 2 ^ k) % 2 ^ 64) ≡ pos (2 ^ k)
one_shifted k h =
    let small : 2 ^ k < 2 ^ 63 = pow_below k 63 h in
    ap (to_z w64) (let e : (1 * 2 ^ k) % 2 ^ 64 ≡ 2 ^ k = omega arith in e) ∙ to_z_pos w64 (2 ^ k) small

least_power : (k : ℕ) → 63 ≤ k → 2 ^ 63 ≤ 2 ^ k
least_power k h = pow-le-pow_right {n = 2} (lit< tt) h

outside_above : (n p : ℕ) → 0 < n → 2 ^ 63 ≤ p → within_64_bits (pos (n * p)) ≡ Err number_too_large
outside_above n p some big = rw (outside (n * p) (omega (arith, mul-le-mul_right {m = 1} {n = n} p some))) refl

outside_below : (m : ℕ) → 2 ^ 64 ≤ m → within_64_bits (neg_ℤ (pos m)) ≡ Err number_too_large
outside_below zero h = absurd (omega arith)
outside_below (suc m) h = rw (outside m (omega arith)) refl

-- a number but 0 and, where it is doubled 63 times, -1, passes 64 bits
pub doubled_outside : (z : ℤ) (k : ℕ) → 63 ≤ k → FitsSigned w64 z → (of_z w64 z ≡ 0 → ⊥)
    → ((of_z w64 z ≡ 18446744073709551615) × (k ≡ 63 → ⊥)) ⊎ (of_z w64 z ≡ 18446744073709551615 → ⊥)
    → within_64_bits (z *ℤ pos (2 ^ k)) ≡ Err number_too_large
doubled_outside (pos n) k h f some other = outside_above n (2 ^ k) (omega arith) (least_power k h)
doubled_outside (negsuc n) k h f some (inl (one, not63)) =
    outside_below (suc n * 2 ^ k) (let p : 2 ^ 64 ≤ 2 ^ k = pow-le-pow_right {n = 2} (lit< tt)
    (let e : 64 ≤ k = omega arith in e) in omega (
      arith,
      mul-le-mul_right {m = 1} {n = suc n} (2 ^ k)
          (omega arith),
    ))
doubled_outside (negsuc n) k h f some (inr two) =
    outside_below (suc n * 2 ^ k) (let p : 2 ^ 63 ≤ 2 ^ k = least_power k h in let small : n < 2 ^ 63 = f.sfits in omega (arith, mul-le-mul_right {m = 2} {n = suc n} (2 ^ k) (omega arith)))

-- from 63 on all halvings give 0 or -1
halved_small : (n k : ℕ) → n < 2 ^ 63 → n / 2 ^ min k 63 ≡ n / 2 ^ k
halved_small n k small = elim (cases_lt k 63) [
  | inl h ↦ ap (λ m. n / 2 ^ m) (let e : min k 63 ≡ k = omega arith in e)
  | inr h ↦ (ap (λ m. n / 2 ^ m) (let e : min k 63 ≡ 63 = omega arith in e) ∙ div-eq_of_lt small)
      ∙ sym (div-eq_of_lt (let p : 2 ^ 63 ≤ 2 ^ k = least_power k h in let q : n < 2 ^ k = omega arith in q))
]

pub halved_is : (z : ℤ) (k : ℕ) → FitsSigned w64 z → int_shr z (min k 63) ≡ int_shr z k
halved_is (pos n) k f = ap pos (halved_small n k f.sfits)
halved_is (negsuc n) k f = ap negsuc (halved_small n k f.sfits)

halved_fits : (z : ℤ) (k : ℕ) → FitsSigned w64 z → FitsSigned w64 (int_shr z k)
halved_fits z k f = record { sfits = (let m : mag (int_shr z k) ≤ mag z = mag_shr z (2 ^ k) in let h : mag z < 2 ^ 63 = f.sfits in omega arith) }

-- the shift of 64 bits to the right
pub shifted_is : (z : ℤ) (k m : ℕ) → FitsSigned w64 z → m ≡ min k 63 → to_z w64 (of_z w64 (int_shr (to_z w64 (of_z w64 z)) m)) ≡ int_shr z k
shifted_is z k m f e =
    ap (λ x. to_z w64 (of_z w64 (int_shr x m))) (to_z-of_z w64 z f) ∙ to_z-of_z w64 (int_shr z m) (halved_fits z m f) ∙ ap (int_shr z) e ∙ halved_is z k f
