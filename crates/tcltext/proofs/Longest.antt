-- A number in an expression is the longest front that is a number.
use Rattle.std.proofs.Common.{◌≡◌, ◌≢◌, ℕ, ◌<◌, ◌≤◌, [], ◌∷◌, ◌++◌, length, Bool, true, false, not, ◌||◌, ◌&&◌, ◌==◌}
use Rattle.std.proofs.Common.{Option, Some, None, refl, sym, ap, subst, ◌∙◌, arith, append_assoc, append-nil, ◌⊎◌, inl}
use Rattle.std.proofs.Common.{inr, lit≤}
use Rattle.std.proofs.lemmas.Bool.Decides.{nat_tests}
use Rattle.std.specs.Char.{digit_value}
use Rattle.std.specs.Str.Parse.{AllDigits, digits_value}
use Rattle.tcltext.specs.chars.Bytes.{AllPass}
use Rattle.tcltext.specs.chars.Runs.{Text, take_while, drop_while}
use Rattle.tcltext.specs.declared.expr.numbers.Digits.{Digits}
use Rattle.tcltext.specs.declared.expr.numbers.Digits.TheVariants.{Binary, Octal, Decimal, Hexadecimal}
use Rattle.tcltext.specs.expr.Operands as operands
use Rattle.tcltext.specs.expr.Operands.{begins_digit, after_digits, announced, after_announced, after_based, after_sign}
use Rattle.tcltext.specs.expr.Operands.{after_exponent, after_fraction, begins_point, after_decimal, first_of_both}
use Rattle.tcltext.specs.expr.Operands.{after_number}
use Rattle.tcltext.specs.chars.Numerals as numerals
use Rattle.tcltext.specs.chars.Numbers as numbers
use Rattle.tcltext.proofs.chars.WholeNumbers.{either, magnitude_read, magnitude_found}
use Rattle.tcltext.proofs.chars.Fractions.{Named, named_is, fraction_begun}
use Rattle.tcltext.specs.chars.Numbers.{IsMagnitude, IsSigned, IsExponent, IsFraction, IsNumber, IsNumberIn}

-- the digits of a base, by their number
abbrev base_number : Digits → ℕ
base_number Binary = 2
base_number Octal = 8
base_number Decimal = 10
base_number Hexadecimal = 16

digit_is : (d : Digits) (b : ℕ) → (operands.is_digit d b ≡ true → digit_value b < base_number d) × (digit_value b < base_number d → operands.is_digit d b ≡ true)
digit_is Binary b = (λ h. grind (arith, nat_tests), λ h. grind (arith, nat_tests))
digit_is Octal b = (λ h. grind (arith, nat_tests), λ h. grind (arith, nat_tests))
digit_is Decimal b = (λ h. grind (arith, nat_tests), λ h. grind (arith, nat_tests))
digit_is Hexadecimal b = (λ h. grind (arith, nat_tests), λ h. grind (arith, nat_tests))

announced_is : (c : ℕ) (d : Digits) → announced c ≡ Some d → numerals.base_of c ≡ Some (base_number d)
announced_is c d h = go (c == 120 || c == 88) (c == 111 || c == 79) (c == 98 || c == 66) refl refl refl where
  some_same : (e : Digits) → (let some : Option Digits = Some e in some) ≡ Some d → e ≡ d
  some_same e h = cc

  none_some : (let none : Option Digits = None in none) ≡ Some d → ⊥
  none_some h = cc

  go : (t u v : Bool) → (c == 120 || c == 88) ≡ t → (c == 111 || c == 79) ≡ u → (c == 98 || c == 66) ≡ v → numerals.base_of c ≡ Some (base_number d)
  go true u v x y z = rw x (ap (λ e. Some (base_number e)) (some_same Hexadecimal (rw x at h)))
  go false true v x y z = rw (x, y) (ap (λ e. Some (base_number e)) (some_same Octal (rw (x, y) at h)))
  go false false true x y z = rw (x, y, z) (ap (λ e. Some (base_number e)) (some_same Binary (rw (x, y, z) at h)))
  go false false false x y z = absurd (none_some (rw (x, y, z) at h))

announced_by : (c base : ℕ) → numerals.base_of c ≡ Some base → (d : Digits) × (announced c ≡ Some d) × (base ≡ base_number d)
announced_by c base h = go (c == 120 || c == 88) (c == 111 || c == 79) (c == 98 || c == 66) refl refl refl where
  some_same : (n : ℕ) → (let some : Option ℕ = Some n in some) ≡ Some base → base ≡ n
  some_same n h = cc

  none_some : (let none : Option ℕ = None in none) ≡ Some base → ⊥
  none_some h = cc

  go : (t u v : Bool) → (c == 120 || c == 88) ≡ t → (c == 111 || c == 79) ≡ u → (c == 98 || c == 66) ≡ v → (d : Digits) × (announced c ≡ Some d) × (base ≡ base_number d)
  go true u v x y z = (Hexadecimal, rw x refl, some_same 16 (rw x at h))
  go false true v x y z = (Octal, rw (x, y) refl, some_same 8 (rw (x, y) at h))
  go false false true x y z = (Binary, rw (x, y, z) refl, some_same 2 (rw (x, y, z) at h))
  go false false false x y z = absurd (none_some (rw (x, y, z) at h))

-- Runs

back_shorter : (p : ℕ → Bool) (t : Text) → length (drop_while p t) ≤ length t
back_shorter p [] = omega arith
back_shorter p (b ∷ t) = go (back_shorter p t) (p b) refl where
  go : length (drop_while p t) ≤ length t → (u : Bool) → p b ≡ u → length (drop_while p (b ∷ t)) ≤ length (b ∷ t)
  go k true e = rw e (omega (arith, k))
  go k false e = rw e (omega arith)

run_split : (p : ℕ → Bool) (t : Text) → (t ≡ take_while p t ++ drop_while p t) × AllPass p (take_while p t)
run_split p [] = (refl, tt)
run_split p (b ∷ t) = go (run_split p t) (p b) refl where
  go : (t ≡ take_while p t ++ drop_while p t) × AllPass p (take_while p t) → (u : Bool) → p b ≡ u → (b ∷ t ≡ take_while p (b ∷ t) ++ drop_while p (b ∷ t)) × AllPass p (take_while p (b ∷ t))
  go k true e = rw e (ap (λ xs. b ∷ xs) k.0, (e, k.1))
  go k false e = rw e (refl, tt)

over : (p : ℕ → Bool) (ds rest : Text) → AllPass p ds → drop_while p (ds ++ rest) ≡ drop_while p rest
over p [] rest all = refl
over p (d ∷ ds) rest all = rw all.0 (over p ds rest all.1)

all_pass : (d : Digits) (ds : Text) → AllDigits (base_number d) ds → AllPass (operands.is_digit d) ds
all_pass d [] all = tt
all_pass d (b ∷ ds) all = ((digit_is d b).1 all.0, all_pass d ds all.1)

all_digits : (d : Digits) (ds : Text) → AllPass (operands.is_digit d) ds → AllDigits (base_number d) ds
all_digits d [] all = tt
all_digits d (b ∷ ds) all = ((digit_is d b).0 all.0, all_digits d ds all.1)

-- What follows a number is no longer than what follows a front that is one

after_exponent_shorter : (t : Text) → length (after_exponent t) ≤ length t
unfolding after_digits
after_exponent_shorter [] = omega arith
after_exponent_shorter (b ∷ t) = go ((b == 101 || b == 69) && begins_digit Decimal (after_sign t)) refl where
  sign : (t : Text) → length (after_sign t) ≤ length t
  sign [] = omega arith
  sign (c ∷ t) = on (operands.is_sign c) refl where
    on : (u : Bool) → operands.is_sign c ≡ u → length (after_sign (c ∷ t)) ≤ length (c ∷ t)
    on true e = rw e (omega arith)
    on false e = rw e (omega arith)

  go : (u : Bool) → ((b == 101 || b == 69) && begins_digit Decimal (after_sign t)) ≡ u → length (after_exponent (b ∷ t)) ≤ length (b ∷ t)
  go true e = rw e (omega (arith, sign t, back_shorter (operands.is_digit Decimal) (after_sign t)))
  go false e = rw e (omega arith)

after_fraction_shorter : (t : Text) → length (after_fraction t) ≤ length t
unfolding after_digits
after_fraction_shorter [] = omega arith
after_fraction_shorter (b ∷ t) = go (b == 46) refl where
  go : (u : Bool) → (b == 46) ≡ u → length (after_fraction (b ∷ t)) ≤ length (b ∷ t)
  go true e = rw e (omega (arith, back_shorter (operands.is_digit Decimal) t))
  go false e = rw e (omega arith)

-- what a decimal number is read up to, behind digits
abbrev tail_of : Text → Text
tail_of t = after_exponent (after_fraction (after_digits Decimal t))

tail_shorter : (t : Text) → length (tail_of t) ≤ length t
unfolding after_digits
tail_shorter t = omega (arith, after_exponent_shorter (after_fraction (after_digits Decimal t)), after_fraction_shorter (after_digits Decimal t), back_shorter (operands.is_digit Decimal) t)

-- behind digits, a point or an exponent
tail_of_digits : (ds other : Text) → AllPass (operands.is_digit Decimal) ds → tail_of (ds ++ other) ≡ tail_of other
unfolding after_digits
tail_of_digits ds other all = ap (λ t. after_exponent (after_fraction t)) (over (operands.is_digit Decimal) ds other all)

point_stops : (t : Text) → operands.is_digit Decimal 46 ≡ false
point_stops t = refl

tail_of_point : (t : Text) → tail_of (46 ∷ t) ≡ after_exponent (after_digits Decimal t)
unfolding after_digits
tail_of_point t = refl

-- digits behind a sign or none
abbrev SignedDigits : Text → Text → Type 0
SignedDigits t other = (begins_digit Decimal (after_sign (t ++ other)) ≡ true) × (drop_while (operands.is_digit Decimal) (after_sign (t ++ other)) ≡ drop_while (operands.is_digit Decimal) other)

exponent_read : (t other : Text) → IsExponent t → after_exponent (t ++ other) ≡ after_digits Decimal other
unfolding after_digits
exponent_read [] other h = absurd h
exponent_read (b ∷ bs) other h = made (signed h.3 h.4 h.5) where
  begun : (ds : Text) → ds ≢ [] → AllPass numerals.is_digit ds → (begins_digit Decimal (ds ++ other) ≡ true)
      × (drop_while (operands.is_digit Decimal) (ds ++ other) ≡ drop_while (operands.is_digit Decimal) other)
  begun [] some all = absurd (some refl)
  begun (d ∷ ds) some all = (all.0, over (operands.is_digit Decimal) (d ∷ ds) other all)

  plain : (ds : Text) → ds ≢ [] → AllPass numerals.is_digit ds → after_sign (ds ++ other) ≡ ds ++ other
  plain [] some all = absurd (some refl)
  plain (d ∷ ds) some all = (let no : operands.is_sign d ≡ false = byte d all.0 in rw no refl) where
    byte : (d : ℕ) → numerals.is_digit d ≡ true → operands.is_sign d ≡ false
    byte d h = grind (arith, nat_tests)

  signed : {t : Text} {m : Bool} {ds : Text} → IsSigned t m ds → ds ≢ [] → AllPass numerals.is_digit ds → SignedDigits t other
  signed (numbers.IsSigned.without_sign {t}) some all = let k = begun t some all in (
    ap (begins_digit Decimal) (plain t some all) ∙ k.0,
    ap (drop_while (operands.is_digit Decimal))
        (plain t some all) ∙ k.1,
  )
  signed (numbers.IsSigned.with_plus {t}) some all = begun t some all
  signed (numbers.IsSigned.with_minus {t}) some all = begun t some all

  made : SignedDigits bs other → after_exponent ((b ∷ bs) ++ other) ≡ drop_while (operands.is_digit Decimal) other
  made k = let letter : (b == 101 || b == 69) ≡ true = letters h.0 in rw (letter, k.0) k.1 where
    letters : (b ≡ 101) ⊎ (b ≡ 69) → (b == 101 || b == 69) ≡ true
    letters (inl e) = rw e refl
    letters (inr e) = rw e refl

-- what is read of a text that begins with a number without a letter for its base
abbrev DecimalShorter : Text → Text → Type 0
DecimalShorter u other = ((begins_digit Decimal (u ++ other) || begins_point (u ++ other)) ≡ true) × (length (tail_of (u ++ other)) ≤ length other)

decimal_digits : (ds other : Text) → ds ≢ [] → AllPass (operands.is_digit Decimal) ds → DecimalShorter ds other
decimal_digits [] other some all = absurd (some refl)
decimal_digits (d ∷ ds) other some all = (rw all.0 refl, omega (arith, ap length (tail_of_digits (d ∷ ds) other all), tail_shorter other))

digits_shorter : (other : Text) → length (after_digits Decimal other) ≤ length other
unfolding after_digits
digits_shorter other = back_shorter (operands.is_digit Decimal) other

exponent_shorter : (t other : Text) → (t ≡ []) ⊎ IsExponent t → length (after_exponent (t ++ other)) ≤ length other
exponent_shorter [] other h = after_exponent_shorter other
exponent_shorter (b ∷ bs) other (inl e) = absurd (some e) where
  some : b ∷ bs ≡ [] → ⊥
  some e = cc
exponent_shorter (b ∷ bs) other (inr h) = omega (arith, ap length (exponent_read (b ∷ bs) other h), digits_shorter other)

letter_stops : (t other : Text) → IsExponent t → (after_digits Decimal (t ++ other) ≡ t ++ other) × (after_fraction (t ++ other) ≡ t ++ other)
unfolding after_digits
letter_stops [] other h = absurd h
letter_stops (b ∷ bs) other h = go h.0 where
  go : (b ≡ 101) ⊎ (b ≡ 69) → (drop_while (operands.is_digit Decimal) (b ∷ (bs ++ other)) ≡ b ∷ (bs ++ other)) × (after_fraction (b ∷ (bs ++ other)) ≡ b ∷ (bs ++ other))
  go (inl e) = rw e (refl, refl)
  go (inr e) = rw e (refl, refl)

part_shorter : (part exponent other : Text) → AllPass (operands.is_digit Decimal) part → (exponent ≡ [])
    ⊎ IsExponent exponent → length (after_exponent (after_digits Decimal ((part ++ exponent) ++ other))) ≤ length other
unfolding after_digits
part_shorter part exponent other all exp = go exponent exp where
  whole : (exponent : Text) → drop_while (operands.is_digit Decimal) ((part ++ exponent) ++ other) ≡ drop_while (operands.is_digit Decimal) (exponent ++ other)
  whole exponent = ap (drop_while (operands.is_digit Decimal)) (append_assoc part exponent other) ∙ over (operands.is_digit Decimal) part (exponent ++ other) all

  go : (exponent : Text) → (exponent ≡ []) ⊎ IsExponent exponent → length (after_exponent (drop_while (operands.is_digit Decimal) ((part ++ exponent) ++ other))) ≤ length other
  go [] exp = omega (arith, ap (λ t. length (after_exponent t)) (whole []), after_exponent_shorter (drop_while (operands.is_digit Decimal) other), back_shorter (operands.is_digit Decimal) other)
  go (b ∷ bs) (inl e) = absurd (some e) where
    some : b ∷ bs ≡ [] → ⊥
    some e = cc
  go (b ∷ bs) (inr h) = omega (arith, ap (λ t. length (after_exponent t)) (whole (b ∷ bs) ∙ (letter_stops (b ∷ bs) other h).0), exponent_shorter (b ∷ bs) other (inr h))

begins_any : (ds rest : Text) → ds ≢ [] → AllPass (operands.is_digit Decimal) ds → begins_digit Decimal (ds ++ rest) ≡ true
begins_any [] rest some all = absurd (some refl)
begins_any (d ∷ ds) rest some all = all.0

fraction_shorter : (u other : Text) → IsFraction u → numerals.is_number_name u ≡ false → DecimalShorter u other
unfolding after_digits
fraction_shorter u other (numbers.IsFraction.pointed whole part exponent all also some exp) word = (begun whole all some, shorter) where
  assoc : (whole : Text) → (whole ++ 46 ∷ (part ++ exponent)) ++ other ≡ whole ++ 46 ∷ ((part ++ exponent) ++ other)
  assoc whole = append_assoc whole (46 ∷ (part ++ exponent)) other

  begun : (whole : Text) → AllPass numerals.is_digit whole → whole ++ part ≢ []
      → (begins_digit Decimal ((whole ++ 46 ∷ (part ++ exponent)) ++ other) || begins_point
      ((whole ++ 46 ∷ (part ++ exponent)) ++ other)) ≡ true
  begun [] all some = let k : begins_digit Decimal ((part ++ exponent) ++ other) ≡ true = ap (begins_digit Decimal)
      (append_assoc part exponent other) ∙ begins_any part (exponent ++ other) some also in k
  begun (w ∷ whole) all some = rw all.0 refl

  shorter : length (tail_of ((whole ++ 46 ∷ (part ++ exponent)) ++ other)) ≤ length other
  shorter = omega (arith, ap (λ t. length (tail_of t)) (assoc whole), ap length (tail_of_digits whole (46 ∷ ((part ++ exponent) ++ other)) all), part_shorter part exponent other also exp)
fraction_shorter u other (numbers.IsFraction.scaled whole exponent some all exp) word = (
  ap (λ t. begins_digit Decimal t || begins_point t) (append_assoc whole exponent other) ∙ first (begins_any whole (exponent ++ other) some all),
  omega (arith, ap (λ t. length (tail_of t)) (append_assoc whole exponent other), ap length (tail_of_digits whole (exponent ++ other) all), stopped),
) where
  first : begins_digit Decimal (whole ++ (exponent ++ other)) ≡ true → (begins_digit Decimal (whole ++ (exponent ++ other)) || begins_point (whole ++ (exponent ++ other))) ≡ true
  first h = rw h refl

  stopped : length (tail_of (exponent ++ other)) ≤ length other
  stopped =
      let k = letter_stops exponent other exp in
      omega (arith, ap (λ t. length (after_exponent (after_fraction t))) k.0, ap (λ t. length (after_exponent t)) k.1, exponent_shorter exponent other (inr exp))
fraction_shorter u other (numbers.IsFraction.after_zero ds all none) word = decimal_digits (48 ∷ ds) other (λ e. cc) (refl, all)
fraction_shorter u other (numbers.IsFraction.named h) word = absurd (apart (sym h ∙ word)) where
  apart : true ≡ false → ⊥
  apart e = cc

below_ten : (base : ℕ) (ds : Text) → base ≤ 10 → AllDigits base ds → AllPass (operands.is_digit Decimal) ds
below_ten base [] small all = tt
below_ten base (d ∷ ds) small all = (let less = all.0 in (digit_is Decimal d).1 (omega (arith, less, small)), below_ten base ds small all.1)

-- of a number at the front, what is read is that number or a longer one
abbrev FrontShorter : Text → Text → Type 0
FrontShorter u other = (rest : Text) × (after_number (u ++ other) ≡ Some rest) × (length rest ≤ length other)

of_decimal : (u other : Text) → DecimalShorter u other → ((rest : Text) → after_based (u ++ other) ≡ Some rest → length rest ≤ length other) → FrontShorter u other
unfolding after_number
of_decimal u other h based = go (after_based (u ++ other)) refl where
  go : (found : Option Text) → after_based (u ++ other) ≡ found → FrontShorter u other
  go (Some rest) e = (rest, ap (λ f. first_of_both f (after_decimal (u ++ other))) e, based rest e)
  go None e = (tail_of (u ++ other), ap (λ f. first_of_both f (after_decimal (u ++ other))) e ∙ decimal, h.1) where
    decimal : after_decimal (u ++ other) ≡ Some (tail_of (u ++ other))
    decimal = let k = h.0 in rw k refl

-- a letter for a base

none_some : {A : Type 0} {x : A} → (let none : Option A = None in none) ≡ Some x → ⊥
none_some h = cc

based_at : (t rest : Text) → after_based t ≡ Some rest → (c : ℕ) × (bs : Text) × (d : Digits) × (t ≡ 48 ∷ (c ∷ bs)) × (announced c ≡ Some d) × (begins_digit d bs ≡ true) × (rest ≡ after_digits d bs)
based_at [] rest h = absurd (none_some h)
based_at (b ∷ []) rest h = absurd (none_some h)
based_at (b ∷ (c ∷ bs)) rest h = go (b == 48) refl where
  some_same : (x : Text) → (let some : Option Text = Some x in some) ≡ Some rest → rest ≡ x
  some_same x h = cc

  on_digits : b ≡ 48 → (d : Digits) → announced c ≡ Some d → (u : Bool) → begins_digit d bs ≡ u → after_announced bs (Some d) ≡ Some rest
      → (c' : ℕ) × (bs' : Text) × (d : Digits) × (b ∷ (c ∷ bs) ≡ 48 ∷ (c' ∷ bs')) × (announced c' ≡ Some d) × (begins_digit d bs' ≡ true) × (rest ≡ after_digits d bs')
  on_digits same d is true e h = (c, bs, d, ap (λ x. x ∷ (c ∷ bs)) same, is, e, some_same (after_digits d bs) (rw e at h))
  on_digits same d is false e h = absurd (none_some (rw e at h))

  on_letter : b ≡ 48 → (found : Option Digits) → announced c ≡ found → after_announced bs found ≡ Some rest
      → (c' : ℕ) × (bs' : Text) × (d : Digits) × (b ∷ (c ∷ bs) ≡ 48 ∷ (c' ∷ bs')) × (announced c' ≡ Some d) × (begins_digit d bs' ≡ true) × (rest ≡ after_digits d bs')
  on_letter same None e h = absurd (none_some h)
  on_letter same (Some d) e h = on_digits same d e (begins_digit d bs) refl h

  go : (u : Bool) → (b == 48) ≡ u → (c' : ℕ) × (bs' : Text) × (d : Digits) × (b ∷ (c ∷ bs) ≡ 48 ∷ (c' ∷ bs')) × (announced c' ≡ Some d) × (begins_digit d bs' ≡ true) × (rest ≡ after_digits d bs')
  go true e = let same : b ≡ 48 = grind (arith, nat_tests) in on_letter same (announced c) refl (rw e at h)
  go false e = absurd (none_some (rw e at h))

-- the second byte is no such letter
abbrev SecondPlain : Text → Type 0
SecondPlain [] = Unit {0}
SecondPlain (x ∷ []) = Unit {0}
SecondPlain (x ∷ (y ∷ ys)) = announced y ≡ None

digit_plain : (y : ℕ) → operands.is_digit Decimal y ≡ true → announced y ≡ None
digit_plain y h =
    let a : (y == 120 || y == 88) ≡ false = grind (arith, nat_tests) in
    let b : (y == 111 || y == 79) ≡ false = grind (arith, nat_tests) in
    let c : (y == 98 || y == 66) ≡ false = grind (arith, nat_tests) in
    rw (a, b, c) refl

letter_plain : (y : ℕ) → (y ≡ 101) ⊎ (y ≡ 69) → announced y ≡ None
letter_plain y (inl e) = ap announced e
letter_plain y (inr e) = ap announced e

second_all : (ds : Text) → AllPass (operands.is_digit Decimal) ds → SecondPlain ds
second_all [] all = tt
second_all (x ∷ []) all = tt
second_all (x ∷ (y ∷ ds)) all = digit_plain y all.1.0

second_after : (d : ℕ) (ds : Text) (c : ℕ) (rest : Text) → AllPass (operands.is_digit Decimal) (d ∷ ds) → announced c ≡ None → SecondPlain ((d ∷ ds) ++ c ∷ rest)
second_after d [] c rest all h = h
second_after d (e ∷ ds) c rest all h = digit_plain e all.1.0

fraction_second : {u : Text} → IsFraction u → numerals.is_number_name u ≡ false → SecondPlain u
fraction_second (numbers.IsFraction.pointed whole part exponent all also some exp) word = go whole part all also some where
  go : (whole part : Text) → AllPass (operands.is_digit Decimal) whole → AllPass (operands.is_digit Decimal) part → whole ++ part ≢ [] → SecondPlain (whole ++ 46 ∷ (part ++ exponent))
  go [] [] all also some = absurd (some refl)
  go [] (p ∷ part) all also some = digit_plain p also.0
  go (w ∷ whole) part all also some = second_after w whole 46 (part ++ exponent) all refl
fraction_second (numbers.IsFraction.scaled whole exponent some all exp) word = go whole exponent some all exp where
  go : (whole exponent : Text) → whole ≢ [] → AllPass (operands.is_digit Decimal) whole → IsExponent exponent → SecondPlain (whole ++ exponent)
  go [] exponent some all exp = absurd (some refl)
  go (w ∷ whole) [] some all exp = absurd exp
  go (w ∷ whole) (b ∷ bs) some all exp = second_after w whole b bs all (letter_plain b exp.0)
fraction_second (numbers.IsFraction.after_zero ds all none) word = second_all (48 ∷ ds) (refl, all)
fraction_second (numbers.IsFraction.named h) word = absurd (apart (sym h ∙ word)) where
  apart : true ≡ false → ⊥
  apart e = cc

based_no_longer : (u other : Text) → u ≢ [] → SecondPlain u → (rest : Text) → after_based (u ++ other) ≡ Some rest → length rest ≤ length other
unfolding after_digits
based_no_longer [] other some plain rest h = absurd (some refl)
based_no_longer (x ∷ []) other some plain rest h =
    let k = based_at (x ∷ other) rest h in
    let tail : other ≡ k.0 ∷ k.1 = following k.3 in
    omega (arith, ap length tail, ap length k.6, back_shorter (operands.is_digit k.2) k.1) where
      following : {c : ℕ} {bs : Text} → x ∷ other ≡ 48 ∷ (c ∷ bs) → other ≡ c ∷ bs
      following e = cc
based_no_longer (x ∷ (y ∷ ys)) other some plain rest h =
    let k = based_at (x ∷ (y ∷ (ys ++ other))) rest h in
    absurd (none_some (sym plain ∙ ap announced (second k.3) ∙ k.4)) where
      second : {c : ℕ} {bs : Text} → x ∷ (y ∷ (ys ++ other)) ≡ 48 ∷ (c ∷ bs) → y ≡ c
      second e = cc

some_text : (b : ℕ) (bs : Text) → b ∷ bs ≡ [] → ⊥
some_text b bs e = cc

digits_number_shorter : (ds other : Text) → ds ≢ [] → AllPass (operands.is_digit Decimal) ds → FrontShorter ds other
digits_number_shorter ds other some all = of_decimal ds other (decimal_digits ds other some all) (based_no_longer ds other some (second_all ds all))

number_shorter : (u other : Text) → IsNumber u → FrontShorter u other
unfolding after_number after_digits
number_shorter u other (inl (n, numbers.IsMagnitude.decimal {ds} starts h)) = digits_number_shorter ds other h.0 (below_ten 10 ds (lit≤ tt) h.1)
number_shorter u other (inl (n, numbers.IsMagnitude.zero)) = digits_number_shorter (48 ∷ []) other (λ e. cc) (refl, tt)
number_shorter u other (inl (n, numbers.IsMagnitude.octal {ds} h)) = digits_number_shorter (48 ∷ ds) other (λ e. cc) (refl, below_ten 8 ds (lit≤ tt) h.1)
number_shorter u other (inl (n, numbers.IsMagnitude.based {b} {base} {ds} is h)) =
    let k = announced_by b base is in
    let all : AllPass (operands.is_digit k.0) ds = all_pass k.0 ds (subst (λ m. AllDigits m ds) k.2 h.1) in
    let found : after_based (48 ∷ (b ∷ (ds ++ other))) ≡ Some (drop_while (operands.is_digit k.0) (ds ++ other)) = ap (after_announced (ds ++ other)) k.1 ∙ begun k.0 ds h.0 all in (
      drop_while (operands.is_digit k.0) (ds ++ other),
      ap (λ f. first_of_both f (after_decimal (48 ∷ (b ∷ (ds ++ other))))) found,
      omega (arith, ap length (over (operands.is_digit k.0) ds other all), back_shorter (operands.is_digit k.0) other),
    ) where
      begun : (d : Digits) (ds : Text) → ds ≢ [] → AllPass (operands.is_digit d) ds → after_announced (ds ++ other) (Some d) ≡ Some (drop_while (operands.is_digit d) (ds ++ other))
      begun d [] some all = absurd (some refl)
      begun d (x ∷ ds) some all = rw all.0 refl
number_shorter u other (inr (f, word)) = of_decimal u other (fraction_shorter u other f word) (based_no_longer u other (some f) (fraction_second f word)) where
  some : IsFraction u → u ≢ []
  some f = (let k = fraction_begun f in λ e. absurd (some_text k.b k.bs (sym k.whole ∙ e)))

-- What is read is a number

sign_split : (bs : Text) → (s : Text) × (bs ≡ s ++ after_sign bs) × ((ds : Text) → (m : Bool) × IsSigned (s ++ ds) m ds)
sign_split [] = ([], refl, λ ds. (false, numbers.IsSigned.without_sign))
sign_split (b ∷ bs) = go (b == 43) (b == 45) refl refl where
  go : (t u : Bool) → (b == 43) ≡ t → (b == 45) ≡ u → (s : Text) × (b ∷ bs ≡ s ++ after_sign (b ∷ bs)) × ((ds : Text) → (m : Bool) × IsSigned (s ++ ds) m ds)
  go true u x y = let same : b ≡ 43 = grind (arith, nat_tests) in (43 ∷ [], rw x (ap (λ c. c ∷ bs) same), λ ds. (false, numbers.IsSigned.with_plus))
  go false true x y = let same : b ≡ 45 = grind (arith, nat_tests) in (45 ∷ [], rw (x, y) (ap (λ c. c ∷ bs) same), λ ds. (true, numbers.IsSigned.with_minus))
  go false false x y = ([], rw (x, y) refl, λ ds. (false, numbers.IsSigned.without_sign))

front_some : (t : Text) → begins_digit Decimal t ≡ true → take_while (operands.is_digit Decimal) t ≢ []
front_some [] h = absurd (apart h) where
  apart : false ≡ true → ⊥
  apart h = cc
front_some (b ∷ t) h = rw h (λ e. cc)

exponent_split : (r : Text) → (e : Text) × (r ≡ e ++ after_exponent r) × ((e ≡ []) ⊎ IsExponent e)
unfolding after_digits
exponent_split [] = ([], refl, inl refl)
exponent_split (b ∷ bs) = go ((b == 101 || b == 69) && begins_digit Decimal (after_sign bs)) refl where
  both : (t u : Bool) → (t && u) ≡ true → (t ≡ true) × (u ≡ true)
  both true u h = (refl, h)
  both false u h = cc

  go : (u : Bool) → ((b == 101 || b == 69) && begins_digit Decimal (after_sign bs)) ≡ u → (e : Text) × (b ∷ bs ≡ e ++ after_exponent (b ∷ bs)) × ((e ≡ []) ⊎ IsExponent e)
  go false x = ([], rw x refl, inl refl)
  go true x =
      let k = both (b == 101 || b == 69) (begins_digit Decimal (after_sign bs)) x in
      let s = sign_split bs in
      let run = run_split (operands.is_digit Decimal) (after_sign bs) in
      let ds = take_while (operands.is_digit Decimal) (after_sign bs) in
      let m = s.2 ds in (
        b ∷ (s.0 ++ ds),
        rw x (ap (λ xs. b ∷ xs) (s.1 ∙ ap (λ xs. s.0 ++ xs) run.0 ∙ sym (append_assoc s.0 ds (drop_while (operands.is_digit Decimal) (after_sign bs))))),
        inr (either b 101 69 k.0, m.0, ds, m.1, front_some (after_sign bs) k.1, run.1),
      )

no_name : (t : Text) → ((k : Named t) → ⊥) → numerals.is_number_name t ≡ false
no_name t none = go (numerals.is_number_name t) refl where
  go : (u : Bool) → numerals.is_number_name t ≡ u → numerals.is_number_name t ≡ false
  go true e = absurd (none (named_is t e))
  go false e = e

digit_no_name : (d : ℕ) (ds : Text) → operands.is_digit Decimal d ≡ true → numerals.is_number_name (d ∷ ds) ≡ false
digit_no_name d ds h = no_name (d ∷ ds) (λ k. small (first k.whole) k.begins.0) where
  first : {c : ℕ} {rest : Text} → d ∷ ds ≡ c ∷ rest → d ≡ c
  first e = cc

  small : {c : ℕ} → d ≡ c → 10 ≤ digit_value c → ⊥
  small e large = let less = (digit_is Decimal d).0 h in omega (arith, ap digit_value e, less, large)

point_no_name : (ds : Text) → numerals.is_number_name (46 ∷ ds) ≡ false
point_no_name ds = refl

digits_number : (ds : Text) → ds ≢ [] → AllPass (operands.is_digit Decimal) ds → IsNumber ds
digits_number [] some all = absurd (some refl)
digits_number (d ∷ ds) some all = go (numerals.magnitude (d ∷ ds)) refl where
  go : (found : Option ℕ) → numerals.magnitude (d ∷ ds) ≡ found → IsNumber (d ∷ ds)
  go (Some n) e = inl (n, magnitude_found (d ∷ ds) n e)
  go None e = on (d == 48) refl where
    on : (u : Bool) → (d == 48) ≡ u → IsNumber (d ∷ ds)
    on true x =
        let same : d ≡ 48 = grind (arith, nat_tests) in
        let none : (n : ℕ) → IsMagnitude (48 ∷ ds) n → ⊥ = λ n m. none_some (sym e ∙ ap (λ c. numerals.magnitude (c ∷ ds)) same ∙ magnitude_read m) in
        inr (subst (λ c. IsFraction (c ∷ ds)) (sym same) (numbers.IsFraction.after_zero ds all.1 none), digit_no_name d ds all.0)
    on false x = absurd (none_some (sym e ∙ magnitude_read (numbers.IsMagnitude.decimal (ap not x) (some, all_digits Decimal (d ∷ ds) all, refl))))

abbrev Found : Text → Text → Type 0
Found bs rest = (t : Text) × (bs ≡ t ++ rest) × IsNumber t

decimal_found : (bs : Text) → (begins_digit Decimal bs || begins_point bs) ≡ true → Found bs (tail_of bs)
unfolding after_digits
decimal_found bs begun = (let run = run_split (operands.is_digit Decimal) bs in go (take_while (operands.is_digit Decimal) bs) (drop_while (operands.is_digit Decimal) bs) run.0 run.1 whole_some) where
  either_true : (t u : Bool) → (t || u) ≡ true → (t ≡ true) ⊎ (u ≡ true)
  either_true true u h = inl refl
  either_true false u h = inr h

  whole_some : (take_while (operands.is_digit Decimal) bs ≢ []) ⊎ (begins_point bs ≡ true)
  whole_some = elim (either_true (begins_digit Decimal bs) (begins_point bs) begun) [ inl h ↦ inl (front_some bs h) | inr h ↦ inr h ]

  point_digit : (x : Text) → begins_point (46 ∷ x) ≡ true → begins_digit Decimal x ≡ true
  point_digit x h = h

  pointed_some : (whole x : Text) → bs ≡ whole ++ 46 ∷ x → (whole ≢ []) ⊎ (begins_point bs ≡ true) → whole ++ take_while (operands.is_digit Decimal) x ≢ []
  pointed_some [] x e (inl some) = absurd (some refl)
  pointed_some [] x e (inr h) = front_some x (point_digit x (subst (λ t. begins_point t ≡ true) e h))
  pointed_some (w ∷ whole) x e some = λ k. cc

  pointed_word : (whole rest : Text) → AllPass (operands.is_digit Decimal) whole → numerals.is_number_name (whole ++ 46 ∷ rest) ≡ false
  pointed_word [] rest all = point_no_name rest
  pointed_word (w ∷ whole) rest all = digit_no_name w (whole ++ 46 ∷ rest) all.0

  plain_some : (whole r : Text) → bs ≡ whole ++ r → begins_point r ≡ false → (whole ≢ []) ⊎ (begins_point bs ≡ true) → whole ≢ []
  plain_some [] r e no_point (inl some) = some
  plain_some [] r e no_point (inr h) = absurd (apart (sym no_point ∙ subst (λ t. begins_point t ≡ true) e h)) where
    apart : false ≡ true → ⊥
    apart k = cc
  plain_some (w ∷ whole) r e no_point some = λ k. cc

  scaled_word : (whole rest : Text) → whole ≢ [] → AllPass (operands.is_digit Decimal) whole → numerals.is_number_name (whole ++ rest) ≡ false
  scaled_word [] rest some all = absurd (some refl)
  scaled_word (w ∷ whole) rest some all = digit_no_name w (whole ++ rest) all.0

  number : (whole e : Text) → whole ≢ [] → AllPass (operands.is_digit Decimal) whole → (e ≡ []) ⊎ IsExponent e → IsNumber (whole ++ e)
  number whole e some all (inl none) = subst IsNumber (sym (ap (λ xs. whole ++ xs) none ∙ append-nil whole)) (digits_number whole some all)
  number whole e some all (inr h) = inr (numbers.IsFraction.scaled whole e some all h, scaled_word whole e some all)

  following : (whole r : Text) → bs ≡ whole ++ r → AllPass (operands.is_digit Decimal) whole → whole ≢ [] → Found bs (after_exponent r)
  following whole r e all some =
      let x = exponent_split r in
      (whole ++ x.0, e ∙ ap (λ xs. whole ++ xs) x.1 ∙ sym (append_assoc whole x.0 (after_exponent r)), number whole x.0 some all x.2)

  go : (whole r : Text) → bs ≡ whole ++ r → AllPass (operands.is_digit Decimal) whole → (whole ≢ []) ⊎ (begins_point bs ≡ true) → Found bs (after_exponent (after_fraction r))
  go whole [] e all some = following whole [] e all (plain_some whole [] e refl some)
  go whole (b ∷ x) e all some = on (b == 46) refl where
    on : (u : Bool) → (b == 46) ≡ u → Found bs (after_exponent (after_fraction (b ∷ x)))
    on false k = let no_point : begins_point (b ∷ x) ≡ false = rw k refl in rw k (following whole (b ∷ x) e all (plain_some whole (b ∷ x) e no_point some))
    on true k =
        let same : b ≡ 46 = grind (arith, nat_tests) in
        let run = run_split (operands.is_digit Decimal) x in
        let part = take_while (operands.is_digit Decimal) x in
        let left = drop_while (operands.is_digit Decimal) x in
        let exp = exponent_split left in
        let at : bs ≡ whole ++ 46 ∷ x = e ∙ ap (λ c. whole ++ c ∷ x) same in
        rw k (
          whole ++ 46 ∷ (part ++ exp.0),
          at ∙ ap (λ xs. whole ++ 46 ∷ xs) (run.0 ∙ ap (λ xs. part ++ xs) exp.1 ∙ sym
              (append_assoc part exp.0 (after_exponent left))) ∙ sym
              (append_assoc whole (46 ∷ (part ++ exp.0)) (after_exponent left)),
          inr (numbers.IsFraction.pointed whole part exp.0 all run.1 (pointed_some whole x at some) exp.2, pointed_word whole (part ++ exp.0) all),
        )

number_found : (bs rest : Text) → after_number bs ≡ Some rest → Found bs rest
unfolding after_number after_digits
number_found bs rest h = go (after_based bs) refl where
  some_same : (x : Text) → (let some : Option Text = Some x in some) ≡ Some rest → x ≡ rest
  some_same x h = cc

  go : (found : Option Text) → after_based bs ≡ found → Found bs rest
  go (Some r) e =
      let same : r ≡ rest = some_same r (sym (ap (λ f. first_of_both f (after_decimal bs)) e) ∙ h) in
      let k = based_at bs r e in
      let run = run_split (operands.is_digit k.2) k.1 in
      let ds = take_while (operands.is_digit k.2) k.1 in
      let whole : bs ≡ (48 ∷ (k.0 ∷ ds)) ++ r = k.3 ∙ ap (λ xs. 48 ∷ (k.0 ∷ xs)) (run.0 ∙ ap (λ xs. ds ++ xs) (sym k.6)) in (
        48 ∷ (k.0 ∷ ds),
        whole ∙ ap (λ xs. (48 ∷ (k.0 ∷ ds)) ++ xs) same,
        inl (digits_value (base_number k.2) ds, numbers.IsMagnitude.based (announced_is k.0 k.2 k.4) (some k.2 k.1 k.5, all_digits k.2 ds run.1, refl)),
      ) where
        some : (d : Digits) (t : Text) → begins_digit d t ≡ true → take_while (operands.is_digit d) t ≢ []
        some d [] h = absurd (apart h) where
          apart : false ≡ true → ⊥
          apart h = cc
        some d (b ∷ t) h = rw h (λ e. cc)
  go None e = on (begins_digit Decimal bs || begins_point bs) refl where
    decimal : after_decimal bs ≡ Some rest
    decimal = sym (ap (λ f. first_of_both f (after_decimal bs)) e) ∙ h

    on : (u : Bool) → (begins_digit Decimal bs || begins_point bs) ≡ u → Found bs rest
    on true k = let same : tail_of bs ≡ rest = some_same (tail_of bs) (rw k at decimal) in subst (Found bs) same (decimal_found bs k)
    on false k = absurd (none_some (rw k at decimal))

pub number_in : (bs rest : Text) → after_number bs ≡ Some rest → IsNumberIn bs rest
number_in bs rest h =
    let k = number_found bs rest h in
    (k.0, k.1, k.2, λ u other e num. longest u other e (number_shorter u other num)) where
      some_same : (x : Text) → (let some : Option Text = Some x in some) ≡ Some rest → x ≡ rest
      some_same x h = cc

      longest : (u other : Text) → bs ≡ u ++ other → FrontShorter u other → length rest ≤ length other
      longest u other e k =
          let same : k.0 ≡ rest = some_same k.0 (sym k.1 ∙ ap after_number (sym e) ∙ h) in
          omega (arith, ap length same, k.2)

pub no_number_in : (bs u other : Text) → after_number bs ≡ None → bs ≡ u ++ other → IsNumber u → ⊥
no_number_in bs u other h e num = (let k = number_shorter u other num in none_some (sym h ∙ ap after_number e ∙ k.1))
