-- Digits and characters behind a backslash.
use Rattle.std.proofs.Common.{◌≡◌, ◌≢◌, ℕ, zero, suc, ◌+◌, ◌*◌, ◌-◌, ◌^◌, ◌<◌, ◌≤◌, [], ◌∷◌, ◌++◌, length, Bool, true}
use Rattle.std.proofs.Common.{false, Some, refl, sym, ap, ap₂, subst, ◌∙◌, ◌/◌, ◌%◌, ◌==◌, nat_lt, nat_le, arith}
use Rattle.std.proofs.lemmas.Bool.Decides.{nat_tests}
use Rattle.std.specs.Char.{digit_value}
use Rattle.tcltext.specs.chars.Runs.{Text, take_while, drop_while}
use Rattle.std.specs.List.{slice_index}
use lib.Utf8.{encode}
use Rattle.tcltext.specs.chars.Bytes.{is_continuation}
use lib.Dec.{T, ltb, ltb→lt}
use Rattle.std.proofs.lemmas.Str.{encode_ascii}
use Rattle.tcltext.specs.chars.Backslash.{digit_at, letter_value, is_octal, after_backslash, begins_wide}
use Rattle.tcltext.proofs.chars.RunLemmas.{take_while-cons_true, take_while-cons_false, drop_while-cons_true}
use Rattle.tcltext.proofs.chars.RunLemmas.{drop_while-cons_false}

pub digit_small : (b : ℕ) → digit_value b < 36 → b < 128
digit_small b h = grind (arith, nat_tests)

-- one digit more
pub within_more : (n v d : ℕ) → n ≤ 4 → n ≢ 0 → v < 16 ^ (4 - n) → d < 16 → v * 16 + d < 16 ^ (4 - (n - 1))
within_more zero v d h k w s = absurd (k refl)
within_more (suc zero) v d h k w s = omega arith
within_more (suc (suc zero)) v d h k w s = omega arith
within_more (suc (suc (suc zero))) v d h k w s = omega arith
within_more (suc (suc (suc (suc zero)))) v d h k w s = omega arith
within_more (suc (suc (suc (suc (suc n))))) v d h k w s = absurd (omega arith)

pub within_all : (n v : ℕ) → n ≤ 4 → v < 16 ^ (4 - n) → v < 65536
within_all zero v h w = omega arith
within_all (suc zero) v h w = omega arith
within_all (suc (suc zero)) v h w = omega arith
within_all (suc (suc (suc zero))) v h w = omega arith
within_all (suc (suc (suc (suc zero)))) v h w = omega arith
within_all (suc (suc (suc (suc (suc n))))) v h w = absurd (omega arith)

-- a digit is below its base
pub digit_below : (base : ℕ) (bs : Text) (d : ℕ) (r : Text) → digit_at base bs ≡ Some (d, r) → d < base
digit_below base [] d r h = cc
digit_below base (b ∷ bs) d r h = grind (arith, nat_tests)

-- a character of several bytes
octal_none : (b : ℕ) → 128 ≤ b → nat_lt (digit_value b) 8 ≡ false
octal_none b h = grind (arith, nat_tests)

no_test : (b c : ℕ) → c < 128 → 128 ≤ b → (b == c) ≡ false
no_test b c k h = grind (arith, nat_tests)

wide_test : (b : ℕ) → 128 ≤ b → nat_le 128 b ≡ true
wide_test b h = grind (arith, nat_tests)

wide_start : (b : ℕ) (bs : Text) → 128 ≤ b → after_backslash (b ∷ bs) ≡ Some (b ∷ take_while is_continuation bs, drop_while is_continuation bs)
wide_start b bs h = rw (no_test b 10 (omega arith) h, octal_none b h, no_test b 120 (omega arith) h, no_test b 117 (omega arith) h, no_test b 85 (omega arith) h, wide_test b h) refl

goes_on : (n : ℕ) → is_continuation (128 + n % 64) ≡ true
goes_on n = let small : n % 64 < 64 = omega arith in grind (arith, nat_tests)

-- what doesn't go on with a character
abbrev pub Clean : Text → Type 0
Clean rest = 0 < length rest → 128 ≤ slice_index rest 0 → 192 ≤ slice_index rest 0

stops : (b : ℕ) → (128 ≤ b → 192 ≤ b) → is_continuation b ≡ false
stops b h = cases (nat_le 128 b) refl where
  cases : (t : Bool) → nat_le 128 b ≡ t → is_continuation b ≡ false
  cases true e = let big : 128 ≤ b = grind (arith, nat_tests) in let far = h big in grind (arith, nat_tests)
  cases false e = grind (arith, nat_tests)

abbrev Runs : Text → Text → Type 0
Runs xs rest = (take_while is_continuation (xs ++ rest) ≡ xs) × (drop_while is_continuation (xs ++ rest) ≡ rest)

runs_none : (rest : Text) → Clean rest → Runs [] rest
runs_none [] h = (refl, refl)
runs_none (b ∷ bs) h = let e = stops b (h (omega arith)) in (take_while-cons_false is_continuation b bs e, drop_while-cons_false is_continuation b bs e)

runs_more : (n : ℕ) (xs rest : Text) → Runs xs rest → Runs ((128 + n % 64) ∷ xs) rest
runs_more n xs rest h = (
  take_while-cons_true is_continuation (128 + n % 64) (xs ++ rest) (goes_on n) ∙ ap (λ ys. (128 + n % 64) ∷ ys) h.0,
  drop_while-cons_true is_continuation (128 + n % 64) (xs ++ rest) (goes_on n) ∙ h.1,
)

wide_runs : (b : ℕ) (xs rest : Text) → 128 ≤ b → Runs xs rest → after_backslash (b ∷ (xs ++ rest)) ≡ Some (b ∷ xs, rest)
wide_runs b xs rest h r = wide_start b (xs ++ rest) h ∙ ap₂ (λ (f k : Text). Some (b ∷ f, k)) r.0 r.1

pub wide_read : (c : ℕ) (rest : Text) → 128 ≤ c → Clean rest → after_backslash (encode c ++ rest) ≡ Some (encode c, rest)
unfolding encode
wide_read c rest h clean = cases (ltb c 128) (ltb c 2048) (ltb c 65536) refl refl refl where
  cases : (t u v : Bool) → ltb c 128 ≡ t → ltb c 2048 ≡ u → ltb c 65536 ≡ v → after_backslash (encode c ++ rest) ≡ Some (encode c, rest)
  cases true u v t' u' v' = absurd (let small : c < 128 = ltb→lt c 128 (subst T (sym t') tt) in omega arith)
  cases false true v t' u' v' = rw (t', u') (wide_runs (192 + c / 64) _ rest (omega arith) (runs_more c [] rest (runs_none rest clean)))
  cases false false true t' u' v' = rw (t', u', v') (wide_runs (224 + c / 4096) _ rest (omega arith) (runs_more (c / 64) _ rest (runs_more c [] rest (runs_none rest clean))))
  cases false false false t' u' v' = rw (t', u', v')
      (wide_runs (240 + c / 262144) _ rest (omega arith)
      (runs_more (c / 4096) _ rest (runs_more (c / 64) _ rest (runs_more c [] rest (runs_none rest clean)))))

pub within_none : (n : ℕ) → n ≤ 4 → 0 < 16 ^ (4 - n)
within_none zero h = omega arith
within_none (suc zero) h = omega arith
within_none (suc (suc zero)) h = omega arith
within_none (suc (suc (suc zero))) h = omega arith
within_none (suc (suc (suc (suc zero)))) h = omega arith
within_none (suc (suc (suc (suc (suc n))))) h = absurd (omega arith)

not_less : (c : ℕ) → ltb c 128 ≡ false → 128 ≤ c
not_less c h = grind (arith, nat_tests)

-- a character's first byte is its own where it is ASCII
pub ascii_or_wide : (c : ℕ) (bs rest : Text) → bs ≡ encode c ++ rest → begins_wide bs ≡ true → 128 ≤ c
ascii_or_wide c bs rest e w = cases (ltb c 128) refl where
  cases : (t : Bool) → ltb c 128 ≡ t → 128 ≤ c
  cases true t' =
      let small : c < 128 = ltb→lt c 128 (subst T (sym t') tt) in
      let is : bs ≡ c ∷ rest = e ∙ ap (λ xs. xs ++ rest) (encode_ascii c small) in
      let big : nat_le 128 c ≡ true = sym (ap begins_wide is) ∙ w in
      grind (arith, nat_tests)
  cases false t' = not_less c t'

-- a character of one byte that begins no code
letter_small : (b : ℕ) → b < 128 → letter_value b < 128
letter_small b h = grind (arith, nat_tests)

narrow_test : (b : ℕ) → b < 128 → nat_le 128 b ≡ false
narrow_test b h = grind (arith, nat_tests)

pub letter_read : (b : ℕ) (bs rest : Text) → bs ≡ b ∷ rest → b < 128 → (b == 10) ≡ false → is_octal b ≡ false → (b == 120) ≡ false → (b == 117) ≡ false → (b == 85) ≡ false
    → Some (encode (letter_value b), rest) ≡ after_backslash bs
letter_read b bs rest e small h o x u w = rw (e, encode_ascii (letter_value b) (letter_small b small), h, o, x, u, w, narrow_test b small) refl
