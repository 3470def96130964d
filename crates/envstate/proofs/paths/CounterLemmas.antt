-- Counters and their decimals.
use Rattle.std.proofs.Common.{◌≡◌, ℕ, ◌+◌, ◌%◌, ◌^◌, ◌<◌, ◌≤◌, Bool, true, false, ◌&&◌, ◌⊎◌, ◌≢◌, inl, inr, [], ◌∷◌}
use Rattle.std.proofs.Common.{◌++◌, refl, sym, ap, ◌∙◌, subst, arith, leb, Option, Some, None, Result, Ok, Err, get_or}
use Rattle.std.specs.Prelude.{decimal, bytes_eq, if◌then◌else◌}
use Rattle.std.proofs.Math.ListN.{length}
use Rattle.std.specs.Result.{OkIff}
use Rattle.std.specs.Str.Parse.{digits_value, AllDigits, ParsesUnsigned}
use Rattle.std.proofs.lemmas.Bool.{cases_lt, false≢true}
use Rattle.std.proofs.lemmas.Str.Parse.{IsNumeralModel, numerals_by_value, tells_digits, parse_plain, digit_at}
use Rattle.std.proofs.lemmas.Bool.Decides.{nat_tests}
use Rattle.std.proofs.lemmas.Fmt.{decimal_by_steps, decimal_is_IsNumeral, decimal_digit, decimal_nonempty}
use Rattle.std.proofs.lemmas.Fmt.{first_decimal, decimal-digits_value}
use Rattle.envvars.specs.Texts.{Text}
use Rattle.envvars.specs.Escapes.{is_special, escaped}
use Rattle.envvars.proofs.TextLemmas.{same_text, bytes_eq-same}
use Rattle.envvars.proofs.EscapeLemmas.{escaped-append}
use Rattle.envstate.specs.paths.Paths.{largest_counter}
use Rattle.envstate.specs.paths.Counters.{is_counter, counter_of, SpellsCounter}

-- the decimal of a counter spells it
found : (t : Text) (m n : ℕ) → m ≡ n → 0 < n → n ≤ largest_counter → t ≡ decimal n → (if is_counter m && bytes_eq t (decimal m) then Some m else None) ≡ Some n
found t m n e low high s =
    let a : leb 1 m ≡ true = grind (arith, nat_tests) in
    let b : leb m largest_counter ≡ true = grind (arith, nat_tests) in
    let c : bytes_eq t (decimal m) ≡ true = ap (λ (k : ℕ). bytes_eq t (decimal k)) e ∙ ap (bytes_eq t) (sym s) ∙ bytes_eq-same t in
    rw (a, b, c) (ap Some e)

pub counter_of-decimal : (n : ℕ) → 0 < n → n ≤ largest_counter → counter_of (decimal n) ≡ Some n
counter_of-decimal n low high =
    let still_fits : n < 2 ^ 64 = omega arith in
    found (decimal n) (digits_value 10 (decimal n)) n (decimal_is_IsNumeral n still_fits).1 low high refl

-- and nothing else does
spelled_at : (t : Text) (m n : ℕ) (a b c : Bool) → leb 1 m ≡ a → leb m largest_counter ≡ b → bytes_eq t (decimal m) ≡ c → (if (a && b) && c then Some m else None) ≡ Some n → SpellsCounter t n
spelled_at t m n true true true e f g h =
    let same : m ≡ n = cc in
    record {
      low = (let l : leb 1 m ≡ true = e in grind (arith, nat_tests));
      high =
          (let l : leb m largest_counter ≡ true = f in grind (arith, nat_tests));
      spelled = same_text t (decimal m) g
          ∙ ap decimal same;
    }
spelled_at t m n true true false e f g h = cc
spelled_at t m n true false c e f g h = cc
spelled_at t m n false b c e f g h = cc

pub SpellsCounter-counter_of : (t : Text) (n : ℕ) → counter_of t ≡ Some n → SpellsCounter t n
SpellsCounter-counter_of t n h = spelled_at t (digits_value 10 t) n (leb 1 (digits_value 10 t)) (leb (digits_value 10 t) largest_counter) (bytes_eq t (decimal (digits_value 10 t))) refl refl refl h

pub counter_of-SpellsCounter : (t : Text) (n : ℕ) → SpellsCounter t n → counter_of t ≡ Some n
counter_of-SpellsCounter t n h = ap counter_of h.spelled ∙ counter_of-decimal n h.low h.high

-- a decimal needs no escape
abbrev Unescaped : ℕ → Text → Type 0
Unescaped n ds = escaped ds ≡ ds

digit_unescaped : (d : ℕ) → d < 10 → escaped ((48 + d) ∷ []) ≡ (48 + d) ∷ []
digit_unescaped d h = let e : is_special (48 + d) ≡ false = grind (arith, nat_tests) in rw e refl

pub escaped-decimal : (n : ℕ) → n < 2 ^ 64 → escaped (decimal n) ≡ decimal n
escaped-decimal = decimal_by_steps Unescaped
    (λ n still_fits. digit_unescaped n still_fits)
    (λ n ds ten h. escaped-append ds ((48 + n % 10) ∷ []) ∙ ap (λ (l : Text). l ++ escaped ((48 + n % 10) ∷ [])) h ∙ ap (λ (l : Text). ds ++ l) (digit_unescaped (n % 10) (omega arith)))

-- what is read of a text

digits : IsNumeralModel (AllDigits 10) (digits_value 10)
digits = numerals_by_value (AllDigits 10) tells_digits

between : (n low high : ℕ) → low ≤ n → n ≤ high → (leb low n && leb n high) ≡ true
between n low high l h = let a : leb low n ≡ true = grind (arith, nat_tests) in let b : leb n high ≡ true = grind (arith, nat_tests) in rw (a, b) refl

low_end : (n low high : ℕ) → (leb low n && leb n high) ≡ true → low ≤ n
low_end n low high h = grind (arith, nat_tests)

-- a text that spells a counter begins with a digit other than 0
spelled_begins : (t : Text) (n : ℕ) → SpellsCounter t n → (leb 49 (get_or t 0 0) && leb (get_or t 0 0) 57) ≡ true
spelled_begins t n h =
    let l : 1 ≤ n = h.low in
    let u : n ≤ largest_counter = h.high in
    let still_fits : n < 2 ^ 64 = omega arith in
    let f : 48 < get_or (decimal n) 0 0 = first_decimal n (omega arith) still_fits in
    let d = digit_at (decimal n) 0 (decimal_is_IsNumeral n still_fits).0.1 (decimal_nonempty n still_fits) in
    ap (λ (x : Text). leb 49 (get_or x 0 0) && leb (get_or x 0 0) 57) h.spelled ∙ between (get_or (decimal n) 0 0) 49 57 (omega arith) d.1

absent_at : (t : Text) (o : Option ℕ) → counter_of t ≡ o → ((n : ℕ) → SpellsCounter t n → ⊥) → None ≡ o
absent_at t None e h = refl
absent_at t (Some n) e h = absurd (h n (SpellsCounter-counter_of t n e))

pub not_begun : (t : Text) (b : Bool) → b ≡ (leb 49 (get_or t 0 0) && leb (get_or t 0 0) 57) → b ≡ false → None ≡ counter_of t
not_begun t true e h = absurd (false≢true (sym h))
not_begun t false e h = absent_at t (counter_of t) refl (λ n s. false≢true (e ∙ spelled_begins t n s))

no_plus : (t : Text) → (leb 49 (get_or t 0 0) && leb (get_or t 0 0) 57) ≡ true → get_or t 0 0 ≢ 43
no_plus t h e = let l : 49 ≤ get_or t 0 0 = low_end (get_or t 0 0) 49 57 h in absurd (omega arith)

no_zero : (t : Text) → (leb 49 (get_or t 0 0) && leb (get_or t 0 0) 57) ≡ true → get_or t 0 0 ≡ 48 → length t ≡ 1
no_zero t h e = let l : 49 ≤ get_or t 0 0 = low_end (get_or t 0 0) 49 57 h in absurd (omega arith)

positive_at : (n : ℕ) (t : Text) → t ≡ decimal n → (leb 49 (get_or t 0 0) && leb (get_or t 0 0) 57) ≡ true → (n < 10) ⊎ (10 ≤ n) → 1 ≤ n
positive_at n t e h (inl s) =
    let f : get_or t 0 0 ≡ 48 + n = ap (λ (x : Text). get_or x 0 0) (e ∙ decimal_digit n s) in
    let l : 49 ≤ get_or t 0 0 = low_end (get_or t 0 0) 49 57 h in omega arith
positive_at n t e h (inr s) = omega arith

pub parsed : {E : Type 0} (t : Text) (r : Result ℕ E) (v : ℕ) (b : Bool) → ParsesUnsigned 32 10 t r → b ≡ (leb 49 (get_or t 0 0) && leb (get_or t 0 0) 57) → b ≡ true → r ≡ Ok v → Some v ≡ counter_of t
parsed t r v false p e h q = absurd (false≢true h)
parsed t r v true p e h q =
    let begun : (leb 49 (get_or t 0 0) && leb (get_or t 0 0) 57) ≡ true = sym e in
    let k = subst (λ s. OkIff s (AllDigits 10 t × (0 < length t) × (digits_value 10 t < 2 ^ 32)) (digits_value 10 t)) q (parse_plain digits 32 t r p (no_plus t begun)) in
    let same : v ≡ digits_value 10 t = k.1 in
    let still_fits : digits_value 10 t < 2 ^ 32 = k.0.2 in
    let d : t ≡ decimal (digits_value 10 t) = sym (decimal-digits_value digits t k.0.0 k.0.1 (no_zero t begun) (omega arith)) in
    sym (counter_of-SpellsCounter t v (record { low = positive_at v t (d ∙ ap decimal (sym same)) begun (cases_lt v 10); high = omega arith; spelled = d ∙ ap decimal (sym same) }))

pub not_parsed : {E : Type 0} (t : Text) (r : Result ℕ E) (x : E) (b : Bool) → ParsesUnsigned 32 10 t r
    → b ≡ (leb 49 (get_or t 0 0) && leb (get_or t 0 0) 57) → b ≡ true → r ≡ Err x → None ≡ counter_of t
not_parsed t r x false p e h q = absurd (false≢true h)
not_parsed t r x true p e h q =
    let begun : (leb 49 (get_or t 0 0) && leb (get_or t 0 0) 57) ≡ true = sym e in
    let k = subst (λ s. OkIff s (AllDigits 10 t × (0 < length t) × (digits_value 10 t < 2 ^ 32)) (digits_value 10 t)) q (parse_plain digits 32 t r p (no_plus t begun)) in
    absent_at t (counter_of t) refl (λ n s.
    let u : n ≤ largest_counter = s.high in
    let still_fits : n < 2 ^ 64 = omega arith in
    let num = decimal_is_IsNumeral n still_fits in
    let value : digits_value 10 t ≡ n = ap (digits_value 10) s.spelled ∙ num.1 in
    k (subst (AllDigits 10) (sym s.spelled) num.0.1, subst (λ (y : Text). 0 < length y) (sym s.spelled) num.0.0, omega arith))
