-- The class of a text is that of a whole number exactly where the text is one.
use Rattle.std.proofs.Common.{◌≡◌, ◌≢◌, ℕ, ◌+◌, ◌*◌, ◌^◌, ◌<◌, ◌≤◌, [], ◌∷◌, ◌++◌, length, get_or, Bool, true, false}
use Rattle.std.proofs.Common.{not, ◌||◌, ◌==◌, nat_lt, Option, Some, None, refl, sym, ap, subst, ◌∙◌, arith}
use Rattle.std.proofs.Common.{append_assoc, append-nil, ◌⊎◌, inl, inr, lit≤, lit<}
use Rattle.std.proofs.lemmas.Bool.{ne_eqb}
use Rattle.std.proofs.lemmas.Bool.Decides.{nat_tests}
use Rattle.std.specs.Prelude.{pos}
use Rattle.std.specs.Char.{digit_value}
use Rattle.std.specs.Str.Parse.{AllDigits, digits_value_after}
use Rattle.tcltext.specs.chars.Bytes.{is_space, AllPass, DoesBegin}
use Rattle.tcltext.specs.chars.Runs.{Text, take_while, drop_while}
use Rattle.tcltext.specs.declared.chars.number.Numeral.TheVariants as numerals
use Rattle.tcltext.specs.chars.Numerals.{before_trimmed, trimmed_end, trimmed, is_minus, is_sign, without_sign, digits_from}
use Rattle.tcltext.specs.chars.Numerals.{digits_in, base_of, prefixed, after_zero, magnitude, is_fraction, whole_of}
use Rattle.tcltext.specs.chars.Numerals.{class_of, numeral_of, numeral}
use Rattle.tcltext.specs.chars.Numbers as numbers
use Rattle.tcltext.specs.chars.Numbers.{IsDigits, IsMagnitude, IsSigned, IsSpaced, IsWhole}
use Rattle.tcltext.proofs.chars.NumberLemmas.{trimmed_end-space, trimmed_end-other}

pub not_true : (t : Bool) → not t ≡ true → t ≡ false
not_true true h = cc
not_true false h = refl

pub either : (b x y : ℕ) → (b == x || b == y) ≡ true → (b ≡ x) ⊎ (b ≡ y)
either b x y h = go (b == x) refl where
  go : (t : Bool) → (b == x) ≡ t → (b ≡ x) ⊎ (b ≡ y)
  go true e = inl (grind (arith, nat_tests))
  go false e = inr (grind (arith, nat_tests))

-- Digits

digit_test : (d base : ℕ) (t : Bool) → nat_lt (digit_value d) base ≡ t → (t ≡ true → digit_value d < base) × (digit_value d < base → t ≡ true)
digit_test d base true e = (λ h. grind (arith, nat_tests), λ h. refl)
digit_test d base false e = (λ h. absurd (apart h), λ h. absurd (fails h)) where
  apart : false ≡ true → ⊥
  apart h = cc

  fails : digit_value d < base → ⊥
  fails h = let no : base ≤ digit_value d = grind (arith, nat_tests) in omega arith

from_digits : (base n : ℕ) (ds : Text) → AllDigits base ds → digits_from base n ds ≡ Some (digits_value_after base n ds)
from_digits base n [] all = refl
from_digits base n (d ∷ ds) all =
    let t : nat_lt (digit_value d) base ≡ true = (let less : digit_value d < base = all.0 in grind (arith, nat_tests)) in
    rw t (from_digits base (n * base + digit_value d) ds all.1)

are_digits : (base n m : ℕ) (ds : Text) → digits_from base n ds ≡ Some m → AllDigits base ds × (m ≡ digits_value_after base n ds)
are_digits base n m [] h = (tt, some_same h) where
  some_same : (let some : Option ℕ = Some n in some) ≡ Some m → m ≡ n
  some_same h = cc
are_digits base n m (d ∷ ds) h = go (are_digits base (n * base + digit_value d) m ds) (nat_lt (digit_value d) base) refl where
  none_some : (let none : Option ℕ = None in none) ≡ Some m → ⊥
  none_some h = cc

  go : (digits_from base (n * base + digit_value d) ds ≡ Some m → AllDigits base ds × (m ≡ digits_value_after base (n * base + digit_value d) ds))
      → (t : Bool) → nat_lt (digit_value d) base ≡ t → AllDigits base (d ∷ ds) × (m ≡ digits_value_after base n (d ∷ ds))
  go more true e = let k = more (rw e at h) in (((digit_test d base true e).0 refl, k.0), k.1)
  go more false e = absurd (none_some (rw e at h))

digits_read : (base n : ℕ) (ds : Text) → IsDigits base ds n → digits_in base ds ≡ Some n
digits_read base n [] h = absurd (h.0 refl)
digits_read base n (d ∷ ds) h = from_digits base 0 (d ∷ ds) h.1 ∙ ap (λ m. Some m) (sym h.2)

digits_found : (base n : ℕ) (ds : Text) → digits_in base ds ≡ Some n → IsDigits base ds n
digits_found base n [] h = absurd (none_some h) where
  none_some : (let none : Option ℕ = None in none) ≡ Some n → ⊥
  none_some h = cc
digits_found base n (d ∷ ds) h = (let k = are_digits base 0 n (d ∷ ds) h in ((λ e. cc), k.0, k.1))

-- Magnitudes

no_letter : (b : ℕ) → digit_value b < 8 → base_of b ≡ None
no_letter b h = go (b == 120 || b == 88) (b == 111 || b == 79) (b == 98 || b == 66) refl refl refl where
  large : (c : ℕ) → b ≡ c → 8 ≤ digit_value c → ⊥
  large c e k = let same : digit_value b ≡ digit_value c = ap digit_value e in omega (arith, same, h, k)

  go : (t u v : Bool) → (b == 120 || b == 88) ≡ t → (b == 111 || b == 79) ≡ u → (b == 98 || b == 66) ≡ v → base_of b ≡ None
  go true u v x y z = absurd (letters (either b 120 88 x)) where
    letters : (b ≡ 120) ⊎ (b ≡ 88) → ⊥
    letters (inl e) = large 120 e (lit≤ tt)
    letters (inr e) = large 88 e (lit≤ tt)
  go false true v x y z = absurd (letters (either b 111 79 y)) where
    letters : (b ≡ 111) ⊎ (b ≡ 79) → ⊥
    letters (inl e) = large 111 e (lit≤ tt)
    letters (inr e) = large 79 e (lit≤ tt)
  go false false true x y z = absurd (letters (either b 98 66 z)) where
    letters : (b ≡ 98) ⊎ (b ≡ 66) → ⊥
    letters (inl e) = large 98 e (lit≤ tt)
    letters (inr e) = large 66 e (lit≤ tt)
  go false false false x y z = rw (x, y, z) refl

pub magnitude_read : {ds : Text} {n : ℕ} → IsMagnitude ds n → magnitude ds ≡ Some n
magnitude_read (numbers.IsMagnitude.decimal {ds} {n} starts h) = go ds starts h where
  go : (ds : Text) → DoesBegin (λ b. not (b == 48)) ds → IsDigits 10 ds n → magnitude ds ≡ Some n
  go [] starts h = absurd starts
  go (b ∷ bs) starts h = let t : (b == 48) ≡ false = not_true (b == 48) starts in rw t (digits_read 10 n (b ∷ bs) h)
magnitude_read numbers.IsMagnitude.zero = refl
magnitude_read (numbers.IsMagnitude.octal {ds} {n} h) = go ds h where
  go : (ds : Text) → IsDigits 8 ds n → magnitude (48 ∷ ds) ≡ Some n
  go [] h = absurd (h.0 refl)
  go (b ∷ bs) h = ap (prefixed b bs) (no_letter b h.1.0) ∙ digits_read 8 n (b ∷ bs) h
magnitude_read (numbers.IsMagnitude.based {b} {base} {ds} {n} e h) = ap (prefixed b ds) e ∙ digits_read base n ds h

pub magnitude_found : (ds : Text) (n : ℕ) → magnitude ds ≡ Some n → IsMagnitude ds n
magnitude_found [] n h = absurd (none_some h) where
  none_some : (let none : Option ℕ = None in none) ≡ Some n → ⊥
  none_some h = cc
magnitude_found (b ∷ bs) n h = go (b == 48) refl where
  following : (bs : Text) → after_zero bs ≡ Some n → IsMagnitude (48 ∷ bs) n
  following [] h = subst (IsMagnitude (48 ∷ [])) (some_same h) numbers.IsMagnitude.zero where
    some_same : (let some : Option ℕ = Some 0 in some) ≡ Some n → 0 ≡ n
    some_same h = cc
  following (c ∷ cs) h = on_base (base_of c) refl where
    on_base : (found : Option ℕ) → base_of c ≡ found → IsMagnitude (48 ∷ (c ∷ cs)) n
    on_base None e = numbers.IsMagnitude.octal (digits_found 8 n (c ∷ cs) (sym (ap (prefixed c cs) e) ∙ h))
    on_base (Some base) e = numbers.IsMagnitude.based e (digits_found base n cs (sym (ap (prefixed c cs) e) ∙ h))

  go : (t : Bool) → (b == 48) ≡ t → IsMagnitude (b ∷ bs) n
  go true e = let same : b ≡ 48 = grind (arith, nat_tests) in subst (λ x. IsMagnitude (x ∷ bs) n) (sym same) (following bs (rw e at h))
  go false e = numbers.IsMagnitude.decimal (ap not e) (digits_found 10 n (b ∷ bs) (rw e at h))

-- Signs

-- a digit is no sign and no white space
pub no_sign : (b : ℕ) → digit_value b < 36 → (is_sign b ≡ false) × ((b == 45) ≡ false) × (is_space b ≡ false)
no_sign b h = (grind (arith, nat_tests), grind (arith, nat_tests), grind (arith, nat_tests))

-- how a whole number begins and ends
pub record Ends (ds : Text) : Type 0 where
  pub b : ℕ
  pub bs : Text
  pub initial : Text
  pub last : ℕ
  pub begins : ds ≡ b ∷ bs
  pub finishes : ds ≡ initial ++ last ∷ []
  pub first_digit : digit_value b < 36
  pub last_digit : digit_value last < 36

pub digits_end : (base : ℕ) (d : ℕ) (ds : Text) → base ≤ 36 → AllDigits base (d ∷ ds) → Ends (d ∷ ds)
digits_end base d [] small all = (let less = all.0 in record {
  b = d;
  bs = [];
  initial = [];
  last = d;
  begins = refl;
  finishes = refl;
  first_digit = omega (arith, small, less);
  last_digit = omega (arith, small, less);
})
digits_end base d (e ∷ ds) small all =
    let k = digits_end base e ds small all.1 in
    let less = all.0 in
    record { b = d; bs = e ∷ ds; initial = d ∷ k.initial; last = k.last; begins = refl; finishes = ap (λ xs. d ∷ xs) k.finishes; first_digit = omega (arith, small, less); last_digit = k.last_digit }

some_digits_end : (base n : ℕ) (ds : Text) → base ≤ 36 → IsDigits base ds n → Ends ds
some_digits_end base n [] small h = absurd (h.0 refl)
some_digits_end base n (d ∷ ds) small h = digits_end base d ds small h.1

pub small_base : (b base : ℕ) → base_of b ≡ Some base → base ≤ 36
small_base b base h = go (b == 120 || b == 88) (b == 111 || b == 79) (b == 98 || b == 66) refl refl refl where
  some_same : (n : ℕ) → (let some : Option ℕ = Some n in some) ≡ Some base → n ≡ base
  some_same n h = cc

  none_some : (let none : Option ℕ = None in none) ≡ Some base → ⊥
  none_some h = cc

  go : (t u v : Bool) → (b == 120 || b == 88) ≡ t → (b == 111 || b == 79) ≡ u → (b == 98 || b == 66) ≡ v → base ≤ 36
  go true u v x y z = let e : 16 ≡ base = some_same 16 (rw x at h) in omega arith
  go false true v x y z = let e : 8 ≡ base = some_same 8 (rw (x, y) at h) in omega arith
  go false false true x y z = let e : 2 ≡ base = some_same 2 (rw (x, y, z) at h) in omega arith
  go false false false x y z = absurd (none_some (rw (x, y, z) at h))

behind_first : (c : ℕ) (ds : Text) → digit_value c < 36 → Ends ds → Ends (c ∷ ds)
behind_first c ds less k = record { b = c; bs = ds; initial = c ∷ k.initial; last = k.last; begins = refl; finishes = ap (λ xs. c ∷ xs) k.finishes; first_digit = less; last_digit = k.last_digit }

pub letter_digit : (b base : ℕ) → base_of b ≡ Some base → digit_value b < 36
letter_digit b base h = go (b == 120 || b == 88) (b == 111 || b == 79) (b == 98 || b == 66) refl refl refl where
  none_some : (let none : Option ℕ = None in none) ≡ Some base → ⊥
  none_some h = cc

  is : (c : ℕ) → b ≡ c → digit_value c < 36 → digit_value b < 36
  is c e less = subst (λ x. digit_value x < 36) (sym e) less

  go : (t u v : Bool) → (b == 120 || b == 88) ≡ t → (b == 111 || b == 79) ≡ u → (b == 98 || b == 66) ≡ v → digit_value b < 36
  go true u v x y z = elim (either b 120 88 x) [ inl e ↦ is 120 e (lit< tt) | inr e ↦ is 88 e (lit< tt) ]
  go false true v x y z = elim (either b 111 79 y) [ inl e ↦ is 111 e (lit< tt) | inr e ↦ is 79 e (lit< tt) ]
  go false false true x y z = elim (either b 98 66 z) [ inl e ↦ is 98 e (lit< tt) | inr e ↦ is 66 e (lit< tt) ]
  go false false false x y z = absurd (none_some (rw (x, y, z) at h))

magnitude_ends : {ds : Text} {n : ℕ} → IsMagnitude ds n → Ends ds
magnitude_ends (numbers.IsMagnitude.decimal {ds} {n} starts h) = some_digits_end 10 n ds (lit≤ tt) h
magnitude_ends numbers.IsMagnitude.zero = record { b = 48; bs = []; initial = []; last = 48; begins = refl; finishes = refl; first_digit = lit< tt; last_digit = lit< tt }
magnitude_ends (numbers.IsMagnitude.octal {ds} {n} h) = behind_first 48 ds (lit< tt) (some_digits_end 8 n ds (lit≤ tt) h)
magnitude_ends (numbers.IsMagnitude.based {b} {base} {ds} {n} e h) = behind_first 48 (b ∷ ds) (lit< tt) (behind_first b ds (letter_digit b base e) (some_digits_end base n ds (small_base b base e) h))

-- a text that begins and ends with no white space
pub record Unspaced (core : Text) : Type 0 where
  pub c : ℕ
  pub cs : Text
  pub initial : Text
  pub last : ℕ
  pub begins : core ≡ c ∷ cs
  pub finishes : core ≡ initial ++ last ∷ []
  pub no_space_first : is_space c ≡ false
  pub no_space_last : is_space last ≡ false

pub signed_read : {core : Text} {m : Bool} {digits : Text} → IsSigned core m digits → Ends digits → (is_minus core ≡ m) × (without_sign core ≡ digits) × Unspaced core
signed_read (numbers.IsSigned.without_sign {t}) k =
    let no = no_sign k.b k.first_digit in
    let last = no_sign k.last k.last_digit in (
      ap is_minus k.begins ∙ no.1,
      ap without_sign k.begins ∙ plain k.b k.bs no.0 ∙ sym k.begins,
      record { c = k.b; cs = k.bs; initial = k.initial; last = k.last; begins = k.begins; finishes = k.finishes; no_space_first = no.2; no_space_last = last.2 },
    ) where
      plain : (b : ℕ) (bs : Text) → is_sign b ≡ false → without_sign (b ∷ bs) ≡ b ∷ bs
      plain b bs h = rw h refl
signed_read (numbers.IsSigned.with_plus {t}) k =
    let last = no_sign k.last k.last_digit in
    (refl, refl, record { c = 43; cs = t; initial = 43 ∷ k.initial; last = k.last; begins = refl; finishes = ap (λ xs. 43 ∷ xs) k.finishes; no_space_first = refl; no_space_last = last.2 })
signed_read (numbers.IsSigned.with_minus {t}) k =
    let last = no_sign k.last k.last_digit in
    (refl, refl, record { c = 45; cs = t; initial = 45 ∷ k.initial; last = k.last; begins = refl; finishes = ap (λ xs. 45 ∷ xs) k.finishes; no_space_first = refl; no_space_last = last.2 })

pub signed_found : (core : Text) → IsSigned core (is_minus core) (without_sign core)
signed_found [] = numbers.IsSigned.without_sign
signed_found (b ∷ bs) = go (b == 43) (b == 45) refl refl where
  go : (t u : Bool) → (b == 43) ≡ t → (b == 45) ≡ u → IsSigned (b ∷ bs) (is_minus (b ∷ bs)) (without_sign (b ∷ bs))
  go t true x y = let same : b ≡ 45 = grind (arith, nat_tests) in subst (λ c. IsSigned (c ∷ bs) (is_minus (c ∷ bs)) (without_sign (c ∷ bs))) (sym same) numbers.IsSigned.with_minus
  go true false x y = let same : b ≡ 43 = grind (arith, nat_tests) in subst (λ c. IsSigned (c ∷ bs) (is_minus (c ∷ bs)) (without_sign (c ∷ bs))) (sym same) numbers.IsSigned.with_plus
  go false false x y = rw (x, y) numbers.IsSigned.without_sign

-- White space

pub back_over : (before x : Text) → AllPass is_space before → drop_while is_space (before ++ x) ≡ drop_while is_space x
back_over [] x all = refl
back_over (b ∷ before) x all = rw all.0 (back_over before x all.1)

without_after : (xs after : Text) → AllPass is_space after → trimmed_end (xs ++ after) ≡ trimmed_end xs
without_after xs [] all = ap trimmed_end (append-nil xs)
without_after xs (b ∷ after) all = ap trimmed_end (sym (append_assoc xs (b ∷ []) after)) ∙ without_after (xs ++ b ∷ []) after all.1 ∙ trimmed_end-space xs b all.0

pub trimmed_is : (t core : Text) → IsSpaced t core → Unspaced core → trimmed t ≡ core
trimmed_is t core s k =
    let after = s.1 in
    let begun : drop_while is_space (core ++ after) ≡ core
    ++ after = ap (λ xs. drop_while is_space (xs ++ after)) k.begins ∙ stop k.c (k.cs ++ after) k.no_space_first
    ∙ ap (λ xs. xs ++ after) (sym k.begins) in
    ap (λ xs. trimmed_end (drop_while is_space xs)) s.2
    ∙ ap trimmed_end (back_over s.0 (core ++ after) s.3 ∙ begun)
    ∙ without_after core after s.4
    ∙ ap trimmed_end k.finishes ∙ trimmed_end-other k.initial k.last k.no_space_last ∙ sym k.finishes where
      stop : (c : ℕ) (xs : Text) → is_space c ≡ false → drop_while is_space (c ∷ xs) ≡ c ∷ xs
      stop c xs h = rw h refl

front_spaces : (t : Text) → (t ≡ take_while is_space t ++ drop_while is_space t) × AllPass is_space (take_while is_space t)
front_spaces [] = (refl, tt)
front_spaces (b ∷ t) = go (front_spaces t) (is_space b) refl where
  go : (t ≡ take_while is_space t ++ drop_while is_space t) × AllPass is_space (take_while is_space t) → (u : Bool) → is_space b ≡ u
      → (b ∷ t ≡ take_while is_space (b ∷ t) ++ drop_while is_space (b ∷ t)) × AllPass is_space (take_while is_space (b ∷ t))
  go k true e = rw e (ap (λ xs. b ∷ xs) k.0, (e, k.1))
  go k false e = rw e (refl, tt)

end_spaces : (t : Text) → (after : Text) × (t ≡ trimmed_end t ++ after) × AllPass is_space after
end_spaces [] = ([], refl, tt)
end_spaces (b ∷ t) = (let k = end_spaces t in go k.0 (trimmed_end t) k.1 k.2 (is_space b) refl) where
  go : (after w : Text) → t ≡ w ++ after → AllPass is_space after → (u : Bool) → is_space b ≡ u → (after : Text) × (b ∷ t ≡ before_trimmed b w ++ after) × AllPass is_space after
  go after [] e all true h = (b ∷ after, rw h (ap (λ xs. b ∷ xs) e), (h, all))
  go after [] e all false h = (after, rw h (ap (λ xs. b ∷ xs) e), all)
  go after (x ∷ w) e all u h = (after, ap (λ xs. b ∷ xs) e, all)

pub spaced : (t : Text) → IsSpaced t (trimmed t)
spaced t =
    let f = front_spaces t in
    let k = end_spaces (drop_while is_space t) in
    (take_while is_space t, k.0, f.0 ∙ ap (λ xs. take_while is_space t ++ xs) k.1, f.1, k.2)

-- The law

pub whole_read : (t : Text) (minus : Bool) (n : ℕ) → IsWhole t minus n → numeral t ≡ whole_of minus n
unfolding numeral
whole_read t minus n h =
    let core = h.0 in
    let read = signed_read h.3 (magnitude_ends h.4) in
    let counted : magnitude (without_sign core) ≡ Some n = ap magnitude read.1 ∙ magnitude_read h.4 in
    ap numeral_of (trimmed_is t core h.2 read.2)
    ∙ ap (λ found. class_of (is_minus core) (without_sign core) found) counted
    ∙ ap (λ m. whole_of m n) read.0

-- decimal digits alone, of which the first isn't 0, are the number that they make
pub plain_read : (t : Text) (n : ℕ) → 0 < length t → (get_or t 0 0 ≡ 48 → ⊥) → digits_from 10 0 t ≡ Some n → n < 2 ^ 63 → numeral t ≡ numerals.Whole (pos n)
plain_read [] n some starts h small = absurd (omega arith)
plain_read (b ∷ bs) n some starts h small =
    let first : (b == 48) ≡ false = ne_eqb b 48 starts in
    let digits = numbers.IsMagnitude.decimal (ap not first) (digits_found 10 n (b ∷ bs) h) in
    let fits : nat_lt n (2 ^ 63) ≡ true = grind (arith, nat_tests) in
    whole_read (b ∷ bs) false n (b ∷ bs, b ∷ bs, ([], [], sym (append-nil (b ∷ bs)), tt, tt), numbers.IsSigned.without_sign, digits) ∙ rw fits refl

pub whole_found : (t : Text) → numeral t ≢ numerals.Fraction → numeral t ≢ numerals.Text → (minus : Bool) × (n : ℕ) × IsWhole t minus n
unfolding numeral
whole_found t no_fraction no_text = go (magnitude (without_sign (trimmed t))) refl where
  go : (found : Option ℕ) → magnitude (without_sign (trimmed t)) ≡ found → (minus : Bool) × (n : ℕ) × IsWhole t minus n
  go (Some n) e = (is_minus (trimmed t), n, (trimmed t, without_sign (trimmed t), spaced t, signed_found (trimmed t), magnitude_found (without_sign (trimmed t)) n e))
  go None e = absurd (other (is_fraction (without_sign (trimmed t))) refl) where
    other : (u : Bool) → is_fraction (without_sign (trimmed t)) ≡ u → ⊥
    other true h = no_fraction (rw (e, h) refl)
    other false h = no_text (rw (e, h) refl)
