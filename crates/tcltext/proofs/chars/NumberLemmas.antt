-- Reading numbers.
use Rattle.std.proofs.Common.{◌≡◌, ℕ, zero, suc, ◌+◌, ◌-◌, ◌*◌, ◌^◌, ◌<◌, ◌≤◌, min, List, [], ◌∷◌, ◌++◌, length, get_or}
use Rattle.std.proofs.Common.{take, drop, cond, Bool, true, false, nat_lt, Option, Some, None, option_map, refl, sym}
use Rattle.std.proofs.Common.{ap, ◌∙◌, arith, ◌⊎◌, inl, inr}
use Rattle.std.proofs.Math.Nat.{mul-le-mul_left}
use Rattle.std.proofs.lemmas.List.{drop_more, take_more}
use Rattle.std.proofs.Math.Seq.{take-length}
use Rattle.std.proofs.Math.ListN.{drop_of_length-le}
use Rattle.std.proofs.lemmas.Bool.Decides.{nat_tests}
use Rattle.std.specs.Char.{digit_value}
use Rattle.tcltext.specs.declared.chars.number.Numeral.{Numeral}
use Rattle.tcltext.specs.declared.chars.number.Numeral.TheVariants.{TooLarge, Fraction, Text}
use Rattle.tcltext.specs.chars.Numerals.{before_trimmed, trimmed_end, trimmed, digits_from, digits_in, is_minus}
use Rattle.tcltext.specs.chars.Numerals.{without_sign, magnitude, is_fraction, whole_of, class_of, numeral_of, numeral}
use Rattle.tcltext.specs.chars.Bytes.{is_space}

pub trimmed_end-space : (xs : List ℕ) (b : ℕ) → is_space b ≡ true → trimmed_end (xs ++ b ∷ []) ≡ trimmed_end xs
trimmed_end-space [] b h = rw h refl
trimmed_end-space (x ∷ xs) b h = ap (before_trimmed x) (trimmed_end-space xs b h)

before_some : (x : ℕ) (xs : List ℕ) (b : ℕ) → before_trimmed x (xs ++ b ∷ []) ≡ x ∷ (xs ++ b ∷ [])
before_some x [] b = refl
before_some x (y ∷ xs) b = refl

pub trimmed_end-other : (xs : List ℕ) (b : ℕ) → is_space b ≡ false → trimmed_end (xs ++ b ∷ []) ≡ xs ++ b ∷ []
trimmed_end-other [] b h = rw h refl
trimmed_end-other (x ∷ xs) b h = ap (before_trimmed x) (trimmed_end-other xs b h) ∙ before_some x xs b

-- a sum that stops at the greatest number, digit by digit, is the whole sum stopped there
saturated-small : (v b d m : ℕ) → v ≤ m → min (min (min v m * b) m + d) m ≡ min (v * b + d) m
saturated-small v b d m h = let e : min v m ≡ v = omega arith in ap (λ n. min (min (n * b) m + d) m) e ∙ omega arith

saturated-large : (v b d m : ℕ) → m ≤ v → 1 ≤ b → min (min (min v m * b) m + d) m ≡ min (v * b + d) m
saturated-large v b d m h k =
    let e : min v m ≡ m = omega arith in
    let x : m * 1 ≤ m * b = mul-le-mul_left m k in
    let y : v * 1 ≤ v * b = mul-le-mul_left v k in
    ap (λ n. min (min (n * b) m + d) m) e ∙ omega (arith, x, y)

either_way : (v m : ℕ) → (v ≤ m) ⊎ (m ≤ v)
either_way v m = elim (nat_lt m v) as (λ t. nat_lt m v ≡ t → (v ≤ m) ⊎ (m ≤ v)) [ true ↦ λ h. inr (grind (arith, nat_tests)) | false ↦ λ h. inl (grind (arith, nat_tests)) ] refl

pub saturated : (v b d m : ℕ) → 1 ≤ b → min (min (min v m * b) m + d) m ≡ min (v * b + d) m
saturated v b d m k = elim (either_way v m) [ inl h ↦ saturated-small v b d m h | inr h ↦ saturated-large v b d m h k ]

-- the digits so far, whose number may be larger than what is kept of it
pub record DigitsSoFar (base : ℕ) (ds : List ℕ) (i n : ℕ) : Type 0 where
  pub value : ℕ
  pub kept : n ≡ min value (2 ^ 64 - 1)
  pub whole : digits_from base 0 ds ≡ digits_from base value (drop i ds)

pub digits-none : (base : ℕ) (ds : List ℕ) → DigitsSoFar base ds 0 0
digits-none base ds = record { value = 0; kept = refl; whole = refl }

digit-more : (base n d : ℕ) (ds : List ℕ) → digit_value d < base → digits_from base n (d ∷ ds) ≡ digits_from base (n * base + digit_value d) ds
digit-more base n d ds h = let t : nat_lt (digit_value d) base ≡ true = grind (arith, nat_tests) in rw t refl

digit-bad : (base n d : ℕ) (ds : List ℕ) → base ≤ digit_value d → digits_from base n (d ∷ ds) ≡ None
digit-bad base n d ds h = let t : nat_lt (digit_value d) base ≡ false = grind (arith, nat_tests) in rw t refl

pub digits-more : (base : ℕ) (ds : List ℕ) (i n d n' : ℕ) → 1 ≤ base → i < length ds → d ≡ digit_value (get_or ds i 0)
    → d < base → n' ≡ min (min (n * base) (2 ^ 64 - 1) + d) (2 ^ 64 - 1) → DigitsSoFar base ds i n
    → DigitsSoFar base ds (i + 1) n'
digits-more base ds i n d n' k lt e h e' s =
    let fits : digit_value (get_or ds i 0) < base = omega (arith, e) in
    record {
      value = s.value * base + digit_value (get_or ds i 0);
      kept = e' ∙ ap (λ x. min (min (x * base) (2 ^ 64 - 1) + d) (2 ^ 64 - 1)) s.kept ∙ saturated s.value base d (2 ^ 64 - 1) k ∙ ap (λ x. min (s.value * base + x) (2 ^ 64 - 1)) e;
      whole = s.whole ∙ ap (digits_from base s.value) (drop_more ds i 0 lt) ∙ digit-more base s.value (get_or ds i 0) (drop (i + 1) ds) fits;
    }

some_in : (base : ℕ) (ds : List ℕ) → 0 < length ds → digits_in base ds ≡ digits_from base 0 ds
some_in base [] h = absurd (omega arith)
some_in base (d ∷ ds) h = refl

pub digits-fail : (base : ℕ) (ds : List ℕ) (i n d : ℕ) → i < length ds → d ≡ digit_value (get_or ds i 0) → base ≤ d → DigitsSoFar base ds i n → digits_in base ds ≡ None
digits-fail base ds i n d lt e h s =
    let bad : base ≤ digit_value (get_or ds i 0) = omega (arith, e) in
    some_in base ds (omega arith) ∙ s.whole ∙ ap (digits_from base s.value) (drop_more ds i 0 lt) ∙ digit-bad base s.value (get_or ds i 0) (drop (i + 1) ds) bad

pub digits-end : (base : ℕ) (ds : List ℕ) (n : ℕ) → 0 < length ds → DigitsSoFar base ds (length ds) n → Some n ≡ option_map (λ n. min n (2 ^ 64 - 1)) (digits_in base ds)
digits-end base ds n h s = sym (ap (option_map (λ n. min n (2 ^ 64 - 1))) (some_in base ds h ∙ s.whole ∙ ap (digits_from base s.value) (drop_of_length-le ds (omega arith))) ∙ ap Some (sym s.kept))

last_cut : (bs : List ℕ) → 0 < length bs → bs ≡ take (length bs - 1) bs ++ get_or bs (length bs - 1) 0 ∷ []
last_cut bs h =
    let i = length bs - 1 in
    let lt : i < length bs = omega arith in
    let whole : i + 1 ≡ length bs = omega arith in
    sym (sym (take_more bs i 0 lt) ∙ ap (λ n. take n bs) whole ∙ take-length bs)

pub trim-more : (bs : List ℕ) → 0 < length bs → is_space (get_or bs (length bs - 1) 0) ≡ true → trimmed_end bs ≡ trimmed_end (take (length bs - 1) bs)
trim-more bs h s = ap trimmed_end (last_cut bs h) ∙ trimmed_end-space (take (length bs - 1) bs) (get_or bs (length bs - 1) 0) s

pub trim-stop : (bs : List ℕ) → 0 < length bs → is_space (get_or bs (length bs - 1) 0) ≡ false → trimmed_end bs ≡ bs
trim-stop bs h s = ap trimmed_end (last_cut bs h) ∙ trimmed_end-other (take (length bs - 1) bs) (get_or bs (length bs - 1) 0) s ∙ sym (last_cut bs h)

large_is : (minus : Bool) (k : ℕ) → 2 ^ 64 - 1 ≤ k → whole_of minus k ≡ TooLarge
large_is false k h = let t : nat_lt k (2 ^ 63) ≡ false = grind (arith, nat_tests) in rw t refl
large_is true zero h = absurd (omega arith)
large_is true (suc k) h = let t : nat_lt k (2 ^ 63) ≡ false = grind (arith, nat_tests) in rw t refl

-- a number that is kept no greater than the largest of 64 bits has the same class
whole_kept : (minus : Bool) (k : ℕ) → whole_of minus (min k (2 ^ 64 - 1)) ≡ whole_of minus k
whole_kept minus k = elim (either_way k (2 ^ 64 - 1)) [
  | inl h ↦ (let e : min k (2 ^ 64 - 1) ≡ k = omega arith in ap (whole_of minus) e)
  | inr h ↦ (let e : min k (2 ^ 64 - 1) ≡ 2 ^ 64 - 1 = omega arith in ap (whole_of minus) e ∙ large_is minus (2 ^ 64 - 1) (omega arith) ∙ sym (large_is minus k h))
]

some_same : (m n : ℕ) → Some m ≡ Some n → m ≡ n
some_same m n h = cc

pub class-some : (minus : Bool) (t : List ℕ) (m : Option ℕ) (n : ℕ) → Some n ≡ option_map (λ n. min n (2 ^ 64 - 1)) m → whole_of minus n ≡ class_of minus t m
class-some minus t None n h = cc
class-some minus t (Some k) n h = ap (whole_of minus) (some_same n (min k (2 ^ 64 - 1)) h) ∙ whole_kept minus k

pub class-fraction : (minus : Bool) (t : List ℕ) (m : Option ℕ) → None ≡ option_map (λ n. min n (2 ^ 64 - 1)) m → is_fraction t ≡ true → class_of minus t m ≡ Fraction
class-fraction minus t None h k = ap (λ b. cond b Fraction Text) k
class-fraction minus t (Some n) h k = cc

pub class-text : (minus : Bool) (t : List ℕ) (m : Option ℕ) → None ≡ option_map (λ n. min n (2 ^ 64 - 1)) m → is_fraction t ≡ false → class_of minus t m ≡ Text
class-text minus t None h k = ap (λ b. cond b Fraction Text) k
class-text minus t (Some n) h k = cc

pub numeral-is : (bs signed digits : List ℕ) (r : Numeral) → signed ≡ trimmed bs → digits ≡ without_sign signed → r ≡ class_of (is_minus signed) digits (magnitude digits) → r ≡ numeral bs
unfolding numeral
numeral-is bs signed digits r e f h = h ∙ ap (λ ds. class_of (is_minus signed) ds (magnitude ds)) f ∙ ap numeral_of e
