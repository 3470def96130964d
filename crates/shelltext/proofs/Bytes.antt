-- What is spelled of one character is spelled of its bytes.
use Rattle.std.proofs.Common.{◌≡◌, ℕ, suc, ◌<◌, ◌≤◌, true, false, List, [], ◌∷◌, ◌++◌, length, get_or, refl, sym, ap₂}
use Rattle.std.proofs.Common.{inl, inr, arith, append-nil}
use Rattle.std.proofs.lemmas.Bool.{cases_lt, cases_Bool}
use Rattle.std.proofs.lemmas.Bool.Decides.{nat_tests}
use Rattle.std.proofs.lemmas.Str.{encode_ascii, inside_one}
use Rattle.std.specs.List.{flat_map}
use Rattle.std.specs.Prelude.{encode_utf8}
use Rattle.shelltext.specs.declared.family.Family.{Family}
use Rattle.shelltext.specs.declared.family.Family.TheVariants.{Sh, Csh, Fish}
use Rattle.shelltext.specs.Reading.{is_special}
use Rattle.shelltext.specs.Printing.{spell, special_text}

pub spell_plain : (family : Family) (b : ℕ) → is_special family b ≡ false → spell family b ≡ b ∷ []
spell_plain family b e = rw e

pub spell_mark : (family : Family) (b : ℕ) → is_special family b ≡ true → spell family b ≡ special_text family b
spell_mark family b e = rw e

pub mark_is_low : (family : Family) (b : ℕ) → is_special family b ≡ true → b < 128
mark_is_low Sh b e = grind (arith, nat_tests)
mark_is_low Csh b e = grind (arith, nat_tests)
mark_is_low Fish b e = grind (arith, nat_tests)

no_mark_high : (family : Family) (b : ℕ) → 128 ≤ b → is_special family b ≡ false
no_mark_high family b h = elim (cases_Bool (is_special family b)) [
  | inl e ↦ let low : b < 128 = mark_is_low family b e in absurd (omega arith)
  | inr e ↦ e
]

spell_high : (family : Family) (xs : List ℕ) → ((k : ℕ) → k < length xs → 128 ≤ get_or xs k 0) → flat_map (spell family) xs ≡ xs
spell_high family [] h = refl
spell_high family (x ∷ xs) h =
    let high : 128 ≤ x = h 0 (omega arith) in
    ap₂ (λ (a b : List ℕ). a ++ b) (spell_plain family x (no_mark_high family x high)) (spell_high family xs (λ k below. h (suc k) (omega arith)))

pub spell_char : (family : Family) (c : ℕ) → is_special family c ≡ false → flat_map (spell family) (encode_utf8 c) ≡ encode_utf8 c
spell_char family c e = elim (cases_lt c 128) [
  | inl small ↦ rw (encode_ascii c small, spell_plain family c e)
  | inr big ↦ spell_high family (encode_utf8 c) (λ k below. elim (cases_lt (get_or (encode_utf8 c) k 0) 128) [
    | inl low ↦ absurd (omega (arith, inside_one c [] (encode_utf8 c) k (sym (append-nil _)) below low))
    | inr h ↦ h
  ])
]

pub spell_char_mark : (family : Family) (c : ℕ) → is_special family c ≡ true → flat_map (spell family) (encode_utf8 c) ≡ special_text family c
spell_char_mark family c e = rw (encode_ascii c (mark_is_low family c e), spell_mark family c e, append-nil)
