-- Runs of digits, and the order of their numbers.
use Rattle.std.proofs.Common.{◌≡◌, ℕ, ◌+◌, ◌-◌, ◌*◌, ◌^◌, ◌<◌, ◌≤◌, List, [], ◌∷◌, ◌++◌, length, Bool, true, false, not}
use Rattle.std.proofs.Common.{cond, ltb, Some, None, unwrap_or, suc, subst, refl, sym, ap, ◌∙◌, arith, lit<, inl, inr}
use Rattle.std.proofs.Common.{take, drop, get_or}
use Rattle.std.specs.List.{prefix_len, position_or_len}
use Rattle.std.proofs.lemmas.List.Sums.{prefix_len-le-length, take_while-cons}
use Rattle.std.specs.Prelude.{◌==◌}
use Rattle.std.specs.declared.cmp.Ordering.TheVariants.{Less, Equal, Greater}
use Rattle.std.specs.Ordering.{nat_cmp, ordering_then}
use Rattle.std.specs.Cmp.Lexicographic.{slice_cmp}
use Rattle.std.proofs.Math.Nat.{pow-succ', pow-le-pow_right, mul-le-mul_right}
use Rattle.std.proofs.lemmas.Bool.{and_parts, cases_lt}
use Rattle.std.proofs.lemmas.Bool.Decides.{nat_tests}
use Rattle.modulename.specs.Versions.{is_digit, with_digit, pieces, pieces_after, run}
use Rattle.modulename.specs.DigitRuns.{number_after, number_of, are_digits, begins_digit, begins_zero}

pub pieces_behind_run : (n : ℕ) (ds rest : List ℕ) → are_digits ds ≡ true → begins_digit rest ≡ false
    → pieces_after (Some n) (ds ++ rest) ≡ run (number_after n ds) ∷ pieces rest
pieces_behind_run n [] [] h k = refl
pieces_behind_run n [] (b ∷ bs) h k = rw k refl
pieces_behind_run n (d ∷ ds) rest h k =
    let p = and_parts (is_digit d) (are_digits ds) h in
    let e : is_digit d ≡ true = p.0 in
    rw e (pieces_behind_run (with_digit n d) ds rest p.1 k)

-- the first piece of a text that begins with a digit
pub pieces_of_run : (text ds rest : List ℕ) → text ≡ ds ++ rest → are_digits ds ≡ true → begins_digit rest ≡ false
    → begins_digit text ≡ true → pieces text ≡ run (number_of ds) ∷ pieces rest
pieces_of_run text [] rest e h k first = absurd (let f : begins_digit text ≡ begins_digit rest = ap begins_digit e in cc)
pieces_of_run text (d ∷ ds) rest e h k first =
    let p = and_parts (is_digit d) (are_digits ds) h in
    let f : is_digit d ≡ true = p.0 in
    ap pieces e ∙ rw f (pieces_behind_run (with_digit 0 d) ds rest p.1 k)

digit_bounds : (d : ℕ) → is_digit d ≡ true → (48 ≤ d) × (d ≤ 57)
digit_bounds d h = (grind (arith, nat_tests), grind (arith, nat_tests))

at_least_step : (n x p v : ℕ) → (10 * n + x) * p ≤ v → n * (10 * p) ≤ v
at_least_step n x p v h = omega arith

below_step : (n x p v : ℕ) → x ≤ 9 → v < (10 * n + x + 1) * p → v < (n + 1) * (10 * p)
below_step n x p v small h = omega (arith, mul-le-mul_right {m = x} {n = 9} p small)

-- between which powers of ten a number lies
at_least : (n : ℕ) (ds : List ℕ) → n * 10 ^ length ds ≤ number_after n ds
at_least n [] = omega arith
at_least n (d ∷ ds) = rw pow-succ' (at_least_step n (d - 48) (10 ^ length ds) (number_after (with_digit n d) ds) (at_least (with_digit n d) ds))

below : (n : ℕ) (ds : List ℕ) → are_digits ds ≡ true → number_after n ds < (n + 1) * 10 ^ length ds
below n [] h = omega arith
below n (d ∷ ds) h =
    let p = and_parts (is_digit d) (are_digits ds) h in
    let small : d - 48 ≤ 9 = omega (arith, digit_bounds d p.0) in
    rw pow-succ' (below_step n (d - 48) (10 ^ length ds) (number_after (with_digit n d) ds) small (below (with_digit n d) ds p.1))

less : (x y : ℕ) → x < y → nat_cmp x y ≡ Less
less x y h = grind (arith, nat_tests)

greater : (x y : ℕ) → y < x → nat_cmp x y ≡ Greater
greater x y h = grind (arith, nat_tests)

equal : (x : ℕ) → nat_cmp x x ≡ Equal
equal x = grind (arith, nat_tests)

-- two numbers with as many digits
pub same_length : (m : ℕ) (a b : List ℕ) → length a ≡ length b → are_digits a ≡ true → are_digits b ≡ true
    → slice_cmp nat_cmp a b ≡ nat_cmp (number_after m a) (number_after m b)
same_length m [] [] e h k = sym (equal m)
same_length m [] (y ∷ ys) e h k = absurd (omega arith)
same_length m (x ∷ xs) [] e h k = absurd (omega arith)
same_length m (x ∷ xs) (y ∷ ys) e h k = elim (cases_lt x y) [
  | inl lt ↦ rw (less x y lt) (sym (less (number_after (with_digit m x) xs) (number_after (with_digit m y) ys) (first_below x y xs ys lt he hx hxs hy)))
  | inr ge ↦ elim (cases_lt y x) [
    | inl gt ↦ rw (greater x y gt) (sym (greater (number_after (with_digit m x) xs) (number_after (with_digit m y) ys) (first_below y x ys xs gt (sym he) hy hys hx)))
    | inr le ↦ same (same_length (with_digit m x) xs ys he hxs hys) (let q : x ≡ y = omega arith in q)
  ]
]
  where
    hx : is_digit x ≡ true
    hx = (and_parts (is_digit x) (are_digits xs) h).0

    hxs : are_digits xs ≡ true
    hxs = (and_parts (is_digit x) (are_digits xs) h).1

    hy : is_digit y ≡ true
    hy = (and_parts (is_digit y) (are_digits ys) k).0

    hys : are_digits ys ≡ true
    hys = (and_parts (is_digit y) (are_digits ys) k).1

    he : length xs ≡ length ys
    he = omega arith

    first_below : (a b : ℕ) (cs bs : List ℕ) → a < b → length cs ≡ length bs → is_digit a ≡ true → are_digits cs ≡ true → is_digit b ≡ true
        → number_after (with_digit m a) cs < number_after (with_digit m b) bs
    first_below a b cs bs lt same_len ha hcs hb =
        let low : 48 ≤ a = (digit_bounds a ha).0 in
        let more : with_digit m a + 1 ≤ with_digit m b = omega arith in
        let product : (with_digit m a + 1) * 10 ^ length cs ≤ with_digit m b * 10 ^ length cs = mul-le-mul_right {m = with_digit m a + 1} {n = with_digit m b} (10 ^ length cs) more in
        let power : with_digit m b * 10 ^ length cs ≡ with_digit m b * 10 ^ length bs = ap (λ n. with_digit m b * 10 ^ n) same_len in
        omega (arith, below (with_digit m a) cs hcs, at_least (with_digit m b) bs, product, power)

    same : slice_cmp nat_cmp xs ys ≡ nat_cmp (number_after (with_digit m x) xs) (number_after (with_digit m x) ys)
        → x ≡ y → ordering_then (nat_cmp x y) (slice_cmp nat_cmp xs ys) ≡ nat_cmp (number_after (with_digit m x) xs) (number_after (with_digit m y) ys)
    same rest q =
        ap (λ o. ordering_then o (slice_cmp nat_cmp xs ys)) (ap (nat_cmp x) (sym q) ∙ equal x)
        ∙ rest
        ∙ ap (λ d. nat_cmp (number_after (with_digit m x) xs) (number_after (with_digit m d) ys)) q

-- a number with fewer digits is less
shorter : (a b : List ℕ) → are_digits a ≡ true → are_digits b ≡ true → begins_zero b ≡ false → length a < length b → number_of a < number_of b
shorter a [] h k g lt = absurd (omega arith)
shorter a (d ∷ ds) h k g lt =
    let digit = digit_bounds d (and_parts (is_digit d) (are_digits ds) k).0 in
    let first : 1 ≤ with_digit 0 d = first_digit d digit.0 g in
    let power : 10 ^ length a ≤ 10 ^ length ds = pow-le-pow_right {n = 10} (lit< tt) (let q : length a ≤ length ds = omega arith in q) in
    let product : 1 * 10 ^ length ds ≤ with_digit 0 d * 10 ^ length ds = mul-le-mul_right {m = 1} {n = with_digit 0 d} (10 ^ length ds) first in
    omega (arith, below 0 a h, at_least (with_digit 0 d) ds, power, product)
  where
    first_digit : (d : ℕ) → 48 ≤ d → (d == 48) ≡ false → 1 ≤ with_digit 0 d
    first_digit d low other = let q : 48 < d = grind (arith, nat_tests) in omega arith

-- two numbers without zeros in front
pub order_of_numbers : (a b : List ℕ) → are_digits a ≡ true → are_digits b ≡ true → begins_zero a ≡ false → begins_zero b ≡ false
    → ordering_then (nat_cmp (length a) (length b)) (slice_cmp nat_cmp a b) ≡ nat_cmp (number_of a) (number_of b)
order_of_numbers a b h k f g = elim (cases_lt (length a) (length b)) [
  | inl lt ↦ rw (less (length a) (length b) lt) (sym (less (number_of a) (number_of b) (shorter a b h k g lt)))
  | inr ge ↦ elim (cases_lt (length b) (length a)) [
    | inl gt ↦ rw (greater (length a) (length b) gt) (sym (greater (number_of a) (number_of b) (shorter b a k h f gt)))
    | inr le ↦ level (let q : length a ≡ length b = omega arith in q)
  ]
]
  where
    level : length a ≡ length b → ordering_then (nat_cmp (length a) (length b)) (slice_cmp nat_cmp a b) ≡ nat_cmp (number_of a) (number_of b)
    level q = ap (λ o. ordering_then o (slice_cmp nat_cmp a b)) (ap (nat_cmp (length a)) (sym q) ∙ equal (length a)) ∙ same_length 0 a b q h k

-- as many digits as stand before the first other byte
not_not : (bs : List ℕ) → position_or_len (λ b. not (is_digit b)) bs ≡ prefix_len is_digit bs
not_not [] = refl
not_not (b ∷ bs) = cases (not_not bs) (is_digit b) refl where
  cases : position_or_len (λ b. not (is_digit b)) bs ≡ prefix_len is_digit bs → (t : Bool) → is_digit b ≡ t → position_or_len (λ b. not (is_digit b)) (b ∷ bs) ≡ prefix_len is_digit (b ∷ bs)
  cases more true e = rw e (ap (λ n. 1 + n) more)
  cases more false e = rw e refl

pub digits_end : (bs : List ℕ) → unwrap_or (cond (ltb (position_or_len (λ b. not (is_digit b)) bs) (length bs))
    (Some (position_or_len (λ b. not (is_digit b)) bs)) None) (length bs) ≡ prefix_len is_digit bs
digits_end bs = rw (not_not bs) (cases (ltb (prefix_len is_digit bs) (length bs)) refl) where
  cases : (t : Bool) → ltb (prefix_len is_digit bs) (length bs) ≡ t
      → unwrap_or (cond (ltb (prefix_len is_digit bs) (length bs)) (Some (prefix_len is_digit bs)) None) (length bs) ≡
      prefix_len is_digit bs
  cases true e = rw e refl
  cases false e =
      let le : prefix_len is_digit bs ≤ length bs = prefix_len-le-length is_digit bs in
      rw e (grind (arith, nat_tests))

-- the digits in front, and what follows them, cut at their place
pub digits_taken : (bs : List ℕ) → are_digits (take (prefix_len is_digit bs) bs) ≡ true
digits_taken [] = refl
digits_taken (b ∷ bs) = ap are_digits (take_while-cons is_digit b bs) ∙ first (is_digit b) refl (digits_taken bs) where
  first : (t : Bool) → is_digit b ≡ t → are_digits (take (prefix_len is_digit bs) bs) ≡ true → are_digits (cond t (b ∷ take (prefix_len is_digit bs) bs) []) ≡ true
  first true e more = rw e more
  first false e more = refl

pub rest_of_digits : (bs : List ℕ) → begins_digit (drop (prefix_len is_digit bs) bs) ≡ false
rest_of_digits [] = refl
rest_of_digits (b ∷ bs) = cases (rest_of_digits bs) (is_digit b) refl where
  cases : begins_digit (drop (prefix_len is_digit bs) bs) ≡ false → (t : Bool) → is_digit b ≡ t → begins_digit (drop (prefix_len is_digit (b ∷ bs)) (b ∷ bs)) ≡ false
  cases more true e =
      let next : suc (prefix_len is_digit bs) ≡ 1 + prefix_len is_digit bs = omega arith in
      rw e (subst (λ n. begins_digit (drop n (b ∷ bs)) ≡ false) next more)
  cases more false e = rw e e

pub begins_with : (rest : List ℕ) → is_digit (get_or rest 0 0) ≡ true → begins_digit rest ≡ true
begins_with [] h = absurd (let e : is_digit 0 ≡ false = refl in cc)
begins_with (b ∷ bs) h = h
