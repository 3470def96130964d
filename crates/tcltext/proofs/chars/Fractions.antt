-- The class of a text is that of a fraction exactly where the text is a number with one.
use Rattle.std.proofs.Common.{◌≡◌, ◌≢◌, ℕ, zero, suc, ◌+◌, ◌^◌, ◌<◌, ◌≤◌, [], ◌∷◌, ◌++◌, map, Bool, true, false, not}
use Rattle.std.proofs.Common.{◌||◌, ◌&&◌, ◌==◌, nat_lt, Option, Some, None, refl, sym, ap, subst, ◌∙◌, arith}
use Rattle.std.proofs.Common.{append-nil, ◌⊎◌, inl, inr, lit≤}
use Rattle.std.specs.Prelude.{codes, bytes_eq, pos, negsuc}
use Rattle.std.specs.Char.{to_ascii_lowercase, digit_value}
use Rattle.std.proofs.lemmas.Slice.Eq.{bytes_eq-Decides}
use Rattle.std.proofs.lemmas.Bool.Decides.{nat_tests}
use Rattle.std.specs.Str.Parse.{AllDigits}
use Rattle.tcltext.specs.chars.Bytes.{is_space, AllPass}
use Rattle.tcltext.specs.chars.Runs.{Text, take_while, drop_while}
use Rattle.tcltext.specs.declared.chars.number.Numeral.TheVariants as numerals
use Rattle.tcltext.specs.chars.Numerals.{trimmed, is_minus, is_sign, without_sign, base_of, magnitude, is_digit}
use Rattle.tcltext.specs.chars.Numerals.{begins_digit, is_nil, are_digits, whole_of, is_exponent, may_be_exponent}
use Rattle.tcltext.specs.chars.Numerals.{is_fraction_end, is_number_name, is_fraction, class_of, numeral_of, numeral}
use Rattle.tcltext.specs.chars.Numbers as numbers
use Rattle.tcltext.specs.chars.Numbers.{IsMagnitude, IsSigned, IsExponent, IsFraction, IsFractional}
use Rattle.tcltext.proofs.chars.WholeNumbers.{not_true, either, no_sign, magnitude_read, magnitude_found, Unspaced}
use Rattle.tcltext.proofs.chars.WholeNumbers.{signed_found, trimmed_is, spaced}

none_some : {A : Type 0} {x : A} → (let none : Option A = None in none) ≡ Some x → ⊥
none_some h = cc

true_false : true ≡ false → ⊥
true_false h = cc

both : (t u : Bool) → (t && u) ≡ true → (t ≡ true) × (u ≡ true)
both true u h = (refl, h)
both false u h = cc

-- Runs of digits

split_digits : (t : Text) → (t ≡ take_while is_digit t ++ drop_while is_digit t) × AllPass is_digit (take_while is_digit t)
split_digits [] = (refl, tt)
split_digits (b ∷ t) = go (split_digits t) (is_digit b) refl where
  go : (t ≡ take_while is_digit t ++ drop_while is_digit t) × AllPass is_digit (take_while is_digit t) → (u : Bool) → is_digit b ≡ u
      → (b ∷ t ≡ take_while is_digit (b ∷ t) ++ drop_while is_digit (b ∷ t)) × AllPass is_digit (take_while is_digit (b ∷ t))
  go k true e = rw e (ap (λ xs. b ∷ xs) k.0, (e, k.1))
  go k false e = rw e (refl, tt)

-- behind digits
over_digits : (ds rest : Text) → AllPass is_digit ds → drop_while is_digit (ds ++ rest) ≡ drop_while is_digit rest
over_digits [] rest all = refl
over_digits (d ∷ ds) rest all = rw all.0 (over_digits ds rest all.1)

stops : (b : ℕ) (rest : Text) → is_digit b ≡ false → drop_while is_digit (b ∷ rest) ≡ b ∷ rest
stops b rest h = rw h refl

begins_front : (t : Text) → begins_digit t ≡ true → take_while is_digit t ≢ []
begins_front [] h = absurd (true_false (sym h))
begins_front (b ∷ t) h = λ e. absurd (apart (sym (first b t h) ∙ e)) where
  apart : b ∷ take_while is_digit t ≡ [] → ⊥
  apart h = cc

  first : (b : ℕ) (t : Text) → is_digit b ≡ true → take_while is_digit (b ∷ t) ≡ b ∷ take_while is_digit t
  first b t h = rw h refl

begins_here : (ds rest : Text) → ds ≢ [] → AllPass is_digit ds → begins_digit (ds ++ rest) ≡ true
begins_here [] rest some all = absurd (some refl)
begins_here (d ∷ ds) rest some all = all.0

all_nil : (ds : Text) → AllPass is_digit ds → is_nil (drop_while is_digit ds) ≡ true
all_nil [] all = refl
all_nil (d ∷ ds) all = rw all.0 (all_nil ds all.1)

nil_all : (t : Text) → is_nil (drop_while is_digit t) ≡ true → AllPass is_digit t
nil_all [] h = tt
nil_all (b ∷ t) h = go (nil_all t) (is_digit b) refl where
  go : (is_nil (drop_while is_digit t) ≡ true → AllPass is_digit t) → (u : Bool) → is_digit b ≡ u → AllPass is_digit (b ∷ t)
  go more true e = (e, more (rw e at h))
  go more false e = absurd (true_false (sym (rw e at h)))

digit_below : (b : ℕ) → is_digit b ≡ true → digit_value b < 10
digit_below b h = grind (arith, nat_tests)

-- Exponents

digits_plain : (ds : Text) → ds ≢ [] → AllPass is_digit ds → without_sign ds ≡ ds
digits_plain [] some all = refl
digits_plain (d ∷ ds) some all =
    let less : digit_value d < 10 = digit_below d all.0 in
    let no : is_sign d ≡ false = (no_sign d (omega (arith, less))).0 in
    rw no refl

signed_digits : {t : Text} {m : Bool} {ds : Text} → IsSigned t m ds → ds ≢ [] → AllPass is_digit ds → without_sign t ≡ ds
signed_digits (numbers.IsSigned.without_sign {t}) some all = digits_plain t some all
signed_digits (numbers.IsSigned.with_plus {t}) some all = refl
signed_digits (numbers.IsSigned.with_minus {t}) some all = refl

exponent_test : (t : Text) → IsExponent t → is_exponent t ≡ true
exponent_test [] h = absurd h
exponent_test (b ∷ bs) h =
    let ds = h.2 in
    let letter : (b == 101 || b == 69) ≡ true = letters h.0 in
    let digits : are_digits ds ≡ true = made ds h.4 h.5 in
    rw (letter, signed_digits h.3 h.4 h.5, digits) refl where
      letters : (b ≡ 101) ⊎ (b ≡ 69) → (b == 101 || b == 69) ≡ true
      letters (inl e) = rw e refl
      letters (inr e) = rw e refl

      made : (ds : Text) → ds ≢ [] → AllPass is_digit ds → are_digits ds ≡ true
      made [] some all = absurd (some refl)
      made (d ∷ ds) some all = rw all.0 (all_nil ds all.1)

exponent_found : (t : Text) → is_exponent t ≡ true → IsExponent t
exponent_found [] h = absurd (true_false (sym h))
exponent_found (b ∷ bs) h =
    let k = both (b == 101 || b == 69) (are_digits (without_sign bs)) h in
    let ds = both (begins_digit (without_sign bs)) (is_nil (drop_while is_digit (without_sign bs))) k.1 in
    (either b 101 69 k.0, is_minus bs, without_sign bs, signed_found bs, some (without_sign bs) ds.0, nil_all (without_sign bs) ds.1) where
      some : (t : Text) → begins_digit t ≡ true → t ≢ []
      some [] h = absurd (true_false (sym h))
      some (c ∷ t) h = λ e. cc

-- No whole number has digits before a byte that is neither a digit nor a letter that names a base

all_append : (base : ℕ) (xs ys : Text) → AllDigits base (xs ++ ys) → AllDigits base ys
all_append base [] ys all = all
all_append base (x ∷ xs) ys all = all_append base xs ys all.1

no_magnitude : (whole : Text) (c : ℕ) (rest t : Text) (n : ℕ) → IsMagnitude t n → t ≡ whole ++ c ∷ rest → AllPass is_digit whole → 10 ≤ digit_value c → base_of c ≡ None → ⊥
no_magnitude whole c rest t n (numbers.IsMagnitude.decimal {ds} starts h) e all large none =
    let less = (all_append 10 whole (c ∷ rest) (subst (AllDigits 10) e h.1)).0 in omega (arith, less, large)
no_magnitude [] c rest t n numbers.IsMagnitude.zero e all large none = small c rest e large where
  small : (c : ℕ) (rest : Text) → 48 ∷ [] ≡ c ∷ rest → 10 ≤ digit_value c → ⊥
  small c rest e k =
      let same : 48 ≡ c = cc in
      let value : digit_value 48 ≡ digit_value c = ap digit_value same in
      omega (arith, value, k)
no_magnitude (w ∷ whole) c rest t n numbers.IsMagnitude.zero e all large none = long whole (tail e) where
  tail : 48 ∷ [] ≡ w ∷ (whole ++ c ∷ rest) → [] ≡ whole ++ c ∷ rest
  tail e = cc

  long : (whole : Text) → [] ≡ whole ++ c ∷ rest → ⊥
  long [] h = cc
  long (x ∷ whole) h = cc
no_magnitude [] c rest t n (numbers.IsMagnitude.octal {ds} h) e all large none = small c rest e large where
  small : (c : ℕ) (rest : Text) → 48 ∷ ds ≡ c ∷ rest → 10 ≤ digit_value c → ⊥
  small c rest e k =
      let same : 48 ≡ c = cc in
      let value : digit_value 48 ≡ digit_value c = ap digit_value same in
      omega (arith, value, k)
no_magnitude (w ∷ whole) c rest t n (numbers.IsMagnitude.octal {ds} h) e all large none =
    let less = (all_append 8 whole (c ∷ rest) (subst (AllDigits 8) (tail e) h.1)).0 in omega (arith, less, large) where
      tail : 48 ∷ ds ≡ w ∷ (whole ++ c ∷ rest) → ds ≡ whole ++ c ∷ rest
      tail e = cc
no_magnitude [] c rest t n (numbers.IsMagnitude.based {b} {base} {ds} is h) e all large none = small c rest e large where
  small : (c : ℕ) (rest : Text) → 48 ∷ (b ∷ ds) ≡ c ∷ rest → 10 ≤ digit_value c → ⊥
  small c rest e k =
      let same : 48 ≡ c = cc in
      let value : digit_value 48 ≡ digit_value c = ap digit_value same in
      omega (arith, value, k)
no_magnitude (w ∷ []) c rest t n (numbers.IsMagnitude.based {b} {base} {ds} is h) e all large none = none_some (sym none ∙ ap base_of (sym (second e)) ∙ is) where
  second : 48 ∷ (b ∷ ds) ≡ w ∷ (c ∷ rest) → b ≡ c
  second e = cc
no_magnitude (w ∷ (x ∷ whole)) c rest t n (numbers.IsMagnitude.based {b} {base} {ds} is h) e all large none = none_some (sym (no_base x all.1.0) ∙ ap base_of (sym (second e)) ∙ is) where
  second : 48 ∷ (b ∷ ds) ≡ w ∷ (x ∷ (whole ++ c ∷ rest)) → b ≡ x
  second e = cc

  no_base : (x : ℕ) → is_digit x ≡ true → base_of x ≡ None
  no_base x h =
      let a : (x == 120 || x == 88) ≡ false = grind (arith, nat_tests) in
      let b : (x == 111 || x == 79) ≡ false = grind (arith, nat_tests) in
      let c : (x == 98 || x == 66) ≡ false = grind (arith, nat_tests) in
      rw (a, b, c) refl

no_number : (t : Text) → ((n : ℕ) → IsMagnitude t n → ⊥) → magnitude t ≡ None
no_number t none = go (magnitude t) refl where
  go : (found : Option ℕ) → magnitude t ≡ found → magnitude t ≡ None
  go None e = e
  go (Some n) e = absurd (none n (magnitude_found t n e))

-- Names

letter_is : (c l : ℕ) → 97 ≤ l → to_ascii_lowercase c ≡ l → (c ≡ l) ⊎ (c + 32 ≡ l)
letter_is c l small h = go (nat_lt c 65) (nat_lt c 91) refl refl where
  go : (t u : Bool) → nat_lt c 65 ≡ t → nat_lt c 91 ≡ u → (c ≡ l) ⊎ (c + 32 ≡ l)
  go true u x y =
      let same : c ≡ l = rw x at h in
      let less : c < 65 = grind (arith, nat_tests) in
      absurd (omega (arith, same, less, small))
  go false true x y = inr (rw (x, y) at h)
  go false false x y = inl (rw (x, y) at h)

-- a letter that begins no number
abbrev pub BeginsNone : ℕ → Type 0
BeginsNone c = (10 ≤ digit_value c) × (base_of c ≡ None) × (is_sign c ≡ false) × ((c == 45) ≡ false)

begins_none : (c d : ℕ) → c ≡ d → BeginsNone d → BeginsNone c
begins_none c d e h = subst BeginsNone (sym e) h

first_i : (c : ℕ) → to_ascii_lowercase c ≡ 105 → BeginsNone c
first_i c h = elim (letter_is c 105 (lit≤ tt) h) [ inl e ↦ begins_none c 105 e (lit≤ tt, refl, refl, refl) | inr e ↦ begins_none c 73 (omega (arith, e)) (lit≤ tt, refl, refl, refl) ]

first_n : (c : ℕ) → to_ascii_lowercase c ≡ 110 → BeginsNone c
first_n c h = elim (letter_is c 110 (lit≤ tt) h) [ inl e ↦ begins_none c 110 e (lit≤ tt, refl, refl, refl) | inr e ↦ begins_none c 78 (omega (arith, e)) (lit≤ tt, refl, refl, refl) ]

abbrev pub NoSpaces : Text → Type 0
NoSpaces t = AllPass (λ b. not (is_space b)) t

letter_no_space : (c l : ℕ) → 97 ≤ l → to_ascii_lowercase c ≡ l → not (is_space c) ≡ true
letter_no_space c l small h = large c (elim (letter_is c l small h) [ inl e ↦ omega (arith, e, small) | inr e ↦ omega (arith, e, small) ]) where
  large : (c : ℕ) → 65 ≤ c → not (is_space c) ≡ true
  large c k = grind (arith, nat_tests)

-- a name, letter by letter
pub record Named (t : Text) : Type 0 where
  pub c : ℕ
  pub rest : Text
  pub whole : t ≡ c ∷ rest
  pub begins : BeginsNone c
  pub no_spaces : NoSpaces t

abbrev AllSmall : Text → Type 0
AllSmall [] = Unit {0}
AllSmall (l ∷ w) = (97 ≤ l) × AllSmall w

head_same : (c l : ℕ) (t w : Text) → c ∷ t ≡ l ∷ w → (c ≡ l) × (t ≡ w)
head_same c l t w h = (cc, cc)

letters_no_space : (t w : Text) → map to_ascii_lowercase t ≡ w → AllSmall w → NoSpaces t
letters_no_space [] w h small = tt
letters_no_space (c ∷ t) [] h small = cc
letters_no_space (c ∷ t) (l ∷ w) h small =
    let k = head_same (to_ascii_lowercase c) l (map to_ascii_lowercase t) w h in
    (letter_no_space c l small.0 k.0, letters_no_space t w k.1 small.1)

named_by : (t w : Text) (l : ℕ) → ((c : ℕ) → to_ascii_lowercase c ≡ l → BeginsNone c) → map to_ascii_lowercase t ≡ l ∷ w → AllSmall (l ∷ w) → Named t
named_by [] w l none h small = cc
named_by (c ∷ t) w l none h small =
    let k = head_same (to_ascii_lowercase c) l (map to_ascii_lowercase t) w h in
    record { c = c; rest = t; whole = refl; begins = none c k.0; no_spaces = letters_no_space (c ∷ t) (l ∷ w) h small }

pub named_is : (t : Text) → is_number_name t ≡ true → Named t
named_is t h = go (bytes_eq (map to_ascii_lowercase t) (codes "inf")) (bytes_eq (map to_ascii_lowercase t) (codes "infinity")) (bytes_eq (map to_ascii_lowercase t) (codes "nan")) refl refl refl where
  equal : (w : Text) → bytes_eq (map to_ascii_lowercase t) w ≡ true → map to_ascii_lowercase t ≡ w
  equal w e = (bytes_eq-Decides (map to_ascii_lowercase t) w).0 e

  go : (x y z : Bool) → bytes_eq (map to_ascii_lowercase t) (codes "inf") ≡ x
      → bytes_eq (map to_ascii_lowercase t) (codes "infinity") ≡ y
      → bytes_eq (map to_ascii_lowercase t) (codes "nan") ≡ z → Named t
  go true y z a b c = named_by t (codes "nf") 105 first_i (equal (codes "inf") a) (lit≤ tt, (lit≤ tt, (lit≤ tt, tt)))
  go false true z a b c = named_by t (codes "nfinity") 105 first_i (equal (codes "infinity") b) (lit≤ tt, (lit≤ tt, (lit≤ tt, (lit≤ tt, (lit≤ tt, (lit≤ tt, (lit≤ tt, (lit≤ tt, tt))))))))
  go false false true a b c = named_by t (codes "an") 110 first_n (equal (codes "nan") c) (lit≤ tt, (lit≤ tt, (lit≤ tt, tt)))
  go false false false a b c = absurd (true_false (sym (rw (a, b, c) at h)))

-- What a fraction is tested as

exponent_letter : (b : ℕ) → (b ≡ 101) ⊎ (b ≡ 69) → BeginsNone b × (is_digit b ≡ false) × ((b == 46) ≡ false) × (not (is_space b) ≡ true)
exponent_letter b (inl e) = subst (λ b. BeginsNone b × (is_digit b ≡ false) × ((b == 46) ≡ false) × (not (is_space b) ≡ true)) (sym e) ((lit≤ tt, refl, refl, refl), refl, refl, refl)
exponent_letter b (inr e) = subst (λ b. BeginsNone b × (is_digit b ≡ false) × ((b == 46) ≡ false) × (not (is_space b) ≡ true)) (sym e) ((lit≤ tt, refl, refl, refl), refl, refl, refl)

exponent_stops : (t : Text) → (t ≡ []) ⊎ IsExponent t → (drop_while is_digit t ≡ t) × (may_be_exponent t ≡ true)
exponent_stops [] h = (refl, refl)
exponent_stops (b ∷ bs) (inl e) = cc
exponent_stops (b ∷ bs) (inr h) = (stops b bs (exponent_letter b h.0).1, exponent_test (b ∷ bs) h)

fraction_no_magnitude : {t : Text} → IsFraction t → magnitude t ≡ None
fraction_no_magnitude (numbers.IsFraction.pointed whole part exponent all also some exp) = no_number
    (whole ++ 46 ∷ (part ++ exponent)) (λ n m. no_magnitude whole 46 (part ++ exponent)
    (whole ++ 46 ∷ (part ++ exponent)) n m refl all (lit≤ tt) refl)
fraction_no_magnitude (numbers.IsFraction.scaled whole exponent some all exp) = go exponent exp where
  go : (exponent : Text) → IsExponent exponent → magnitude (whole ++ exponent) ≡ None
  go [] exp = absurd exp
  go (b ∷ bs) exp = let k = (exponent_letter b exp.0).0 in no_number (whole ++ b ∷ bs) (λ n m. no_magnitude whole b bs (whole ++ b ∷ bs) n m refl all k.0 k.1)
fraction_no_magnitude (numbers.IsFraction.after_zero ds all none) = no_number (48 ∷ ds) none
fraction_no_magnitude (numbers.IsFraction.named {t} h) = let k = named_is t h in no_number t (λ n m. no_magnitude [] k.c k.rest t n m k.whole tt k.begins.0 k.begins.1)

by_end : (t r : Text) → drop_while is_digit t ≡ r → is_fraction_end t r ≡ true → is_fraction t ≡ true
by_end t r e h = let same : is_fraction_end t (drop_while is_digit t) ≡ true = ap (is_fraction_end t) e ∙ h in rw same refl

fraction_test : {t : Text} → IsFraction t → is_fraction t ≡ true
fraction_test (numbers.IsFraction.pointed whole part exponent all also some exp) =
    by_end (whole ++ 46 ∷ (part ++ exponent)) (46 ∷ (part ++ exponent)) (over_digits whole (46 ∷ (part ++ exponent)) all ∙ refl) (made whole all some) where
      rest : may_be_exponent (drop_while is_digit (part ++ exponent)) ≡ true
      rest = ap may_be_exponent (over_digits part exponent also ∙ (exponent_stops exponent exp).0) ∙ (exponent_stops exponent exp).1

      made : (whole : Text) → AllPass is_digit whole → whole ++ part ≢ [] → is_fraction_end (whole ++ 46 ∷ (part ++ exponent)) (46 ∷ (part ++ exponent)) ≡ true
      made [] all some = let begun : begins_digit (part ++ exponent) ≡ true = begins_here part exponent some also in rw (begun, rest) refl
      made (w ∷ whole) all some = rw (all.0, rest) refl
fraction_test (numbers.IsFraction.scaled whole exponent some all exp) = go exponent exp where
  go : (exponent : Text) → IsExponent exponent → is_fraction (whole ++ exponent) ≡ true
  go [] exp = absurd exp
  go (b ∷ bs) exp =
      let k = exponent_letter b exp.0 in
      let test : is_exponent (b ∷ bs) ≡ true = exponent_test (b ∷ bs) exp in
      let begun : begins_digit (whole ++ b ∷ bs) ≡ true = begins_here whole (b ∷ bs) some all in
      by_end (whole ++ b ∷ bs) (b ∷ bs) (over_digits whole (b ∷ bs) all ∙ stops b bs k.1) (rw (k.2, begun, test) refl)
fraction_test (numbers.IsFraction.after_zero ds all none) = by_end (48 ∷ ds) [] (end ds all) refl where
  end : (ds : Text) → AllPass is_digit ds → drop_while is_digit ds ≡ []
  end [] all = refl
  end (d ∷ ds) all = rw all.0 (end ds all.1)
fraction_test (numbers.IsFraction.named {t} h) = go (is_fraction_end t (drop_while is_digit t)) refl where
  go : (u : Bool) → is_fraction_end t (drop_while is_digit t) ≡ u → is_fraction t ≡ true
  go true e = rw e refl
  go false e = rw (e, h) refl

either_true : (t u : Bool) → (t || u) ≡ true → (t ≡ true) ⊎ (u ≡ true)
either_true true u h = inl refl
either_true false u h = inr h

end_found : (t r : Text) → t ≡ take_while is_digit t ++ r → AllPass is_digit (take_while is_digit t) → magnitude t ≡ None → is_fraction_end t r ≡ true → IsFraction t
end_found t [] whole all none h = led t (subst (AllPass is_digit) (sym (whole ∙ append-nil (take_while is_digit t))) all) none h where
  led : (t : Text) → AllPass is_digit t → magnitude t ≡ None → is_fraction_end t [] ≡ true → IsFraction t
  led [] all none h = absurd (true_false (sym h))
  led (b ∷ bs) all none h =
      let same : b ≡ 48 = grind (arith, nat_tests) in
      subst (λ c. IsFraction (c ∷ bs)) (sym same) (numbers.IsFraction.after_zero bs all.1 (λ n m. none_some (sym none ∙ ap (λ c. magnitude (c ∷ bs)) same ∙ magnitude_read m)))
end_found t (b ∷ bs) whole all none h = go (b == 46) refl where
  nonempty : (x y : Text) → (x ≢ []) ⊎ (y ≢ []) → x ++ y ≢ []
  nonempty [] y (inl k) = absurd (k refl)
  nonempty [] y (inr k) = k
  nonempty (c ∷ x) y k = λ e. cc

  exponents : (r : Text) → may_be_exponent r ≡ true → (r ≡ []) ⊎ IsExponent r
  exponents [] k = inl refl
  exponents (c ∷ r) k = inr (exponent_found (c ∷ r) k)

  go : (u : Bool) → (b == 46) ≡ u → IsFraction t
  go true e =
      let same : b ≡ 46 = grind (arith, nat_tests) in
      let k = both (begins_digit t || begins_digit bs) (may_be_exponent (drop_while is_digit bs)) (rw e at h) in
      let parts = split_digits bs in
      let some : (take_while is_digit t ≢ []) ⊎ (take_while is_digit bs ≢ []) = elim
      (either_true (begins_digit t) (begins_digit bs) k.0)
      [ inl x ↦ inl (begins_front t x) | inr x ↦ inr (begins_front bs x) ] in
      subst IsFraction (ap (λ c. take_while is_digit t ++ c ∷ (take_while is_digit bs ++ drop_while is_digit bs)) (sym same) ∙ ap (λ xs. take_while is_digit t ++ b ∷ xs) (sym parts.0) ∙ sym whole)
      (numbers.IsFraction.pointed (take_while is_digit t) (take_while is_digit bs) (drop_while is_digit bs) all parts.1
      (nonempty (take_while is_digit t) (take_while is_digit bs) some) (exponents (drop_while is_digit bs) k.1))
  go false e =
      let k = both (begins_digit t) (is_exponent (b ∷ bs)) (rw e at h) in
      subst IsFraction (sym whole) (numbers.IsFraction.scaled (take_while is_digit t) (b ∷ bs) (begins_front t k.0) all (exponent_found (b ∷ bs) k.1))

fraction_found : (t : Text) → magnitude t ≡ None → is_fraction t ≡ true → IsFraction t
fraction_found t none h = go (is_fraction_end t (drop_while is_digit t)) refl where
  go : (u : Bool) → is_fraction_end t (drop_while is_digit t) ≡ u → IsFraction t
  go true e = (let k = split_digits t in end_found t (drop_while is_digit t) k.0 k.1 none e)
  go false e = numbers.IsFraction.named (rw e at h)

-- Signs and white space

spaces_append : (x y : Text) → NoSpaces x → NoSpaces y → NoSpaces (x ++ y)
spaces_append [] y h k = k
spaces_append (b ∷ x) y h k = (h.0, spaces_append x y h.1 k)

digits_no_space : (ds : Text) → AllPass is_digit ds → NoSpaces ds
digits_no_space [] all = tt
digits_no_space (d ∷ ds) all = (byte d all.0, digits_no_space ds all.1) where
  byte : (d : ℕ) → is_digit d ≡ true → not (is_space d) ≡ true
  byte d h = grind (arith, nat_tests)

signed_no_space : {t : Text} {m : Bool} {ds : Text} → IsSigned t m ds → NoSpaces ds → NoSpaces t
signed_no_space (numbers.IsSigned.without_sign {t}) h = h
signed_no_space (numbers.IsSigned.with_plus {t}) h = (refl, h)
signed_no_space (numbers.IsSigned.with_minus {t}) h = (refl, h)

exponent_no_space : (t : Text) → (t ≡ []) ⊎ IsExponent t → NoSpaces t
exponent_no_space [] h = tt
exponent_no_space (b ∷ bs) (inl e) = cc
exponent_no_space (b ∷ bs) (inr h) = ((exponent_letter b h.0).3, signed_no_space h.3 (digits_no_space h.2 h.5))

fraction_no_space : {t : Text} → IsFraction t → NoSpaces t
fraction_no_space (numbers.IsFraction.pointed whole part exponent all also some exp) =
    spaces_append whole (46 ∷ (part ++ exponent)) (digits_no_space whole all) (refl, spaces_append part exponent (digits_no_space part also) (exponent_no_space exponent exp))
fraction_no_space (numbers.IsFraction.scaled whole exponent some all exp) = spaces_append whole exponent (digits_no_space whole all) (exponent_no_space exponent (inr exp))
fraction_no_space (numbers.IsFraction.after_zero ds all none) = (refl, digits_no_space ds all)
fraction_no_space (numbers.IsFraction.named {t} h) = (named_is t h).no_spaces

-- a first byte that is no sign
pub record Begun (t : Text) : Type 0 where
  pub b : ℕ
  pub bs : Text
  pub whole : t ≡ b ∷ bs
  pub no_sign : is_sign b ≡ false
  pub no_minus : (b == 45) ≡ false

digit_begun : (d : ℕ) (ds : Text) → is_digit d ≡ true → Begun (d ∷ ds)
digit_begun d ds h = (let k = no_sign d (omega (arith, digit_below d h)) in record { b = d; bs = ds; whole = refl; no_sign = k.0; no_minus = k.1 })

pub fraction_begun : {t : Text} → IsFraction t → Begun t
fraction_begun (numbers.IsFraction.pointed whole part exponent all also some exp) = go whole all where
  go : (whole : Text) → AllPass is_digit whole → Begun (whole ++ 46 ∷ (part ++ exponent))
  go [] all = record { b = 46; bs = part ++ exponent; whole = refl; no_sign = refl; no_minus = refl }
  go (w ∷ whole) all = digit_begun w (whole ++ 46 ∷ (part ++ exponent)) all.0
fraction_begun (numbers.IsFraction.scaled whole exponent some all exp) = go whole some all where
  go : (whole : Text) → whole ≢ [] → AllPass is_digit whole → Begun (whole ++ exponent)
  go [] some all = absurd (some refl)
  go (w ∷ whole) some all = digit_begun w (whole ++ exponent) all.0
fraction_begun (numbers.IsFraction.after_zero ds all none) = digit_begun 48 ds refl
fraction_begun (numbers.IsFraction.named {t} h) = (let k = named_is t h in record { b = k.c; bs = k.rest; whole = k.whole; no_sign = k.begins.2; no_minus = k.begins.3 })

signed_begun : {core : Text} {m : Bool} {digits : Text} → IsSigned core m digits → Begun digits → (is_minus core ≡ m) × (without_sign core ≡ digits) × (core ≢ [])
signed_begun (numbers.IsSigned.without_sign {t}) k = (
  ap is_minus k.whole ∙ k.no_minus,
  ap without_sign k.whole ∙ plain k.b k.bs k.no_sign ∙ sym k.whole,
  λ e. absurd (some k.b k.bs (sym k.whole ∙ e)),
) where
  plain : (b : ℕ) (bs : Text) → is_sign b ≡ false → without_sign (b ∷ bs) ≡ b ∷ bs
  plain b bs h = rw h refl

  some : (b : ℕ) (bs : Text) → b ∷ bs ≡ [] → ⊥
  some b bs e = cc
signed_begun (numbers.IsSigned.with_plus {t}) k = (refl, refl, λ e. cc)
signed_begun (numbers.IsSigned.with_minus {t}) k = (refl, refl, λ e. cc)

unspaced : (t : Text) → t ≢ [] → NoSpaces t → Unspaced t
unspaced [] some h = absurd (some refl)
unspaced (b ∷ []) some h = record { c = b; cs = []; initial = []; last = b; begins = refl; finishes = refl; no_space_first = not_true (is_space b) h.0; no_space_last = not_true (is_space b) h.0 }
unspaced (b ∷ (d ∷ t)) some h =
    let k = unspaced (d ∷ t) (λ e. cc) h.1 in
    record {
      c = b;
      cs = d ∷ t;
      initial = b ∷ k.initial;
      last = k.last;
      begins = refl;
      finishes = ap (λ xs. b ∷ xs)
          k.finishes;
      no_space_first = not_true (is_space b) h.0;
      no_space_last = k.no_space_last;
    }

-- The law

pub fraction_read : (t : Text) → IsFractional t → numeral t ≡ numerals.Fraction
unfolding numeral
fraction_read t h =
    let core = h.0 in
    let digits = h.1 in
    let read = signed_begun h.4 (fraction_begun h.5) in
    let counted : magnitude (without_sign core) ≡ None = ap magnitude read.1 ∙ fraction_no_magnitude h.5 in
    let test : is_fraction (without_sign core) ≡ true = ap is_fraction read.1 ∙ fraction_test h.5 in
    ap numeral_of (trimmed_is t core h.3 (unspaced core read.2 (signed_no_space h.4 (fraction_no_space h.5))))
    ∙ ap (λ found. class_of (is_minus core) (without_sign core) found) counted
    ∙ tested (is_minus core) (without_sign core) test where
      tested : (m : Bool) (ds : Text) → is_fraction ds ≡ true → class_of m ds None ≡ numerals.Fraction
      tested m ds e = rw e refl

whole_fraction : (m : Bool) (n : ℕ) → whole_of m n ≡ numerals.Fraction → ⊥
whole_fraction m n h = go m n h where
  small : (n : ℕ) (u : Bool) → nat_lt n (2 ^ 63) ≡ u → whole_of false n ≡ numerals.Fraction → ⊥
  small n true e h = apart (rw e at h) where
    apart : numerals.Whole (pos n) ≡ numerals.Fraction → ⊥
    apart h = cc
  small n false e h = apart (rw e at h) where
    apart : numerals.TooLarge ≡ numerals.Fraction → ⊥
    apart h = cc

  below : (n : ℕ) (u : Bool) → nat_lt n (2 ^ 63) ≡ u → whole_of true (suc n) ≡ numerals.Fraction → ⊥
  below n true e h = apart (rw e at h) where
    apart : numerals.Whole (negsuc n) ≡ numerals.Fraction → ⊥
    apart h = cc
  below n false e h = apart (rw e at h) where
    apart : numerals.TooLarge ≡ numerals.Fraction → ⊥
    apart h = cc

  go : (m : Bool) (n : ℕ) → whole_of m n ≡ numerals.Fraction → ⊥
  go false n h = small n (nat_lt n (2 ^ 63)) refl h
  go true zero h = cc
  go true (suc n) h = below n (nat_lt n (2 ^ 63)) refl h

pub is_fractional : (t : Text) → numeral t ≡ numerals.Fraction → IsFractional t
unfolding numeral
is_fractional t h = go (magnitude (without_sign (trimmed t))) refl where
  text_fraction : numerals.Text ≡ numerals.Fraction → ⊥
  text_fraction h = cc

  go : (found : Option ℕ) → magnitude (without_sign (trimmed t)) ≡ found → IsFractional t
  go (Some n) e = absurd (whole_fraction (is_minus (trimmed t)) n (sym (ap (λ found. class_of (is_minus (trimmed t)) (without_sign (trimmed t)) found) e) ∙ h))
  go None e = other (is_fraction (without_sign (trimmed t))) refl where
    other : (u : Bool) → is_fraction (without_sign (trimmed t)) ≡ u → IsFractional t
    other true x = (trimmed t, without_sign (trimmed t), is_minus (trimmed t), spaced t, signed_found (trimmed t), fraction_found (without_sign (trimmed t)) e x)
    other false x = absurd (text_fraction (rw (e, x) at h))
