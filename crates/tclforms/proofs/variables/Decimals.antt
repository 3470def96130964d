-- A number that isn't negative is read from its decimal digits.
use Rattle.std.proofs.Common.{◌≡◌, ℕ, zero, suc, ◌<◌, ◌≤◌, ◌^◌, ◌==◌, true, false, not, nat_lt, ℤ, pos, negsuc, w64}
use Rattle.std.proofs.Common.{FitsSigned, List, [], ◌∷◌, get_or, length, append-nil, refl, sym, ap, ◌∙◌, arith}
use Rattle.std.proofs.lemmas.Bool.Decides.{nat_tests}
use Rattle.std.proofs.lemmas.Fmt.{decimal_is_IsNumeral, decimal_digit, first_decimal, length-decimal-le}
use Rattle.std.specs.Fmt.{decimal, signed_decimal}
use Rattle.tcltext.specs.chars.Bytes.{DoesBegin}
use Rattle.tcltext.specs.chars.Numbers as numbers
use Rattle.tcltext.specs.chars.Numbers.{IsDigits}
use Rattle.tcltext.specs.chars.Numerals.{numeral}
use Rattle.tcltext.specs.declared.chars.number.Numeral.TheVariants.{Whole}
use Rattle.tcltext.proofs.chars.WholeNumbers.{whole_read}

begins_other : (ds : List ℕ) → 48 < get_or ds 0 0 → DoesBegin (λ b. not (b == 48)) ds
begins_other [] h = absurd (omega arith)
begins_other (b ∷ bs) h = grind (arith, nat_tests)

not_empty : (ds : List ℕ) → 0 < length ds → ds ≡ [] → ⊥
not_empty [] h e = omega arith
not_empty (b ∷ bs) h e = cc

zero_read : numeral (48 ∷ []) ≡ Whole (pos 0)
unfolding numeral
zero_read = refl

decimal_read : (n : ℕ) → n < 2 ^ 63 → numeral (decimal n) ≡ Whole (pos n)
decimal_read zero h = ap numeral (decimal_digit 0 (omega arith)) ∙ zero_read
decimal_read (suc m) h =
    let n = suc m in
    let d = decimal_is_IsNumeral n (omega arith) in
    let digits : IsDigits 10 (decimal n) n = (not_empty (decimal n) d.0.0, d.0.1, sym d.1) in
    let starts = begins_other (decimal n) (first_decimal n (omega arith) (omega arith)) in
    let fits : nat_lt n (2 ^ 63) ≡ true = grind (arith, nat_tests) in
    whole_read (decimal n) false n
    (decimal n, decimal n, ([], [], sym (append-nil (decimal n)), tt, tt), numbers.IsSigned.without_sign, numbers.IsMagnitude.decimal starts digits)
    ∙ rw fits refl

pub known : (z : ℤ) → FitsSigned w64 z → ((n : ℕ) → z ≡ negsuc n → ⊥) → numeral (signed_decimal z) ≡ Whole z
known (pos n) fits h = decimal_read n fits.sfits
known (negsuc n) fits h = absurd (h n refl)

-- no whole number of 64 bits has more than 20 bytes
pub short : (z : ℤ) → FitsSigned w64 z → length (signed_decimal z) ≤ 20
short (pos n) fits = let small = fits.sfits in omega (arith, length-decimal-le 19 n (omega arith) (omega arith) (omega arith))
short (negsuc n) fits = let small = fits.sfits in omega (arith, length-decimal-le 19 (suc n) (omega arith) (omega arith) (omega arith))
