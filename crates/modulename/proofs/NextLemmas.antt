-- Versions whose next byte differs, where as many digits follow in both.
use Rattle.std.proofs.Common.{◌≡◌, ℕ, ◌+◌, ◌≤◌, Bool, true, false, Option, Some, None, unwrap_or, suc, List, [], ◌∷◌}
use Rattle.std.proofs.Common.{length, take, drop, get_or, refl, sym, ap, ◌∙◌, Ordering, Less, Equal, Greater, arith}
use Rattle.std.specs.List.{prefix_len}
use Rattle.std.specs.Ordering.{nat_cmp, ordering_then}
use Rattle.std.specs.Cmp.Lexicographic.{slice_cmp}
use Rattle.std.proofs.lemmas.List.{take-append-drop, length-take-le}
use Rattle.std.proofs.lemmas.List.Sums.{prefix_len-le-length}
use Rattle.modulename.specs.Versions.{run, other, is_digit, with_digit, pieces, pieces_after, piece_order}
use Rattle.modulename.specs.DigitRuns.{number_after, are_digits}
use Rattle.modulename.proofs.RunLemmas.{pieces_behind_run, same_length, digits_taken, rest_of_digits}
use Rattle.modulename.proofs.StartLemmas.{same_first}

first_wins : (o p : Ordering) → (o ≡ Equal → ⊥) → ordering_then o p ≡ o
first_wins Less p e = refl
first_wins Equal p e = absurd (e refl)
first_wins Greater p e = refl

-- the digits that a text begins with
abbrev digits_in : List ℕ → List ℕ
digits_in xs = take (prefix_len is_digit xs) xs

count_digit : (b : ℕ) (xs : List ℕ) → is_digit b ≡ true → prefix_len is_digit (b ∷ xs) ≡ 1 + prefix_len is_digit xs
count_digit b xs e = rw e refl

count_other : (b : ℕ) (xs : List ℕ) → is_digit b ≡ false → prefix_len is_digit (b ∷ xs) ≡ 0
count_other b xs e = rw e refl

first_run : (n : ℕ) (xs : List ℕ)
    → pieces_after (Some n) xs ≡ run (number_after n (digits_in xs)) ∷ pieces (drop (prefix_len is_digit xs) xs)
first_run n xs =
    ap (pieces_after (Some n)) (sym (take-append-drop (prefix_len is_digit xs) xs))
    ∙ pieces_behind_run n (digits_in xs) (drop (prefix_len is_digit xs) xs) (digits_taken xs) (rest_of_digits xs)

behind_first : (o : Option ℕ) (b : ℕ) (xs : List ℕ) → is_digit b ≡ true
    → pieces_after o (b ∷ xs) ≡ run (number_after (unwrap_or o 0) (b ∷ digits_in xs)) ∷ pieces (drop (prefix_len is_digit xs) xs)
behind_first None b xs e = rw e (first_run (with_digit 0 b) xs)
behind_first (Some n) b xs e = rw e (first_run (with_digit n b) xs)

all_digits : (b : ℕ) (xs : List ℕ) → is_digit b ≡ true → are_digits (b ∷ digits_in xs) ≡ true
all_digits b xs e = rw e (digits_taken xs)

run_order : (n m : ℕ) → piece_order (run n) (run m) ≡ nat_cmp n m
run_order n m = refl

module _ (o : Option ℕ) (a b : ℕ) (xs ys : List ℕ) (apart : nat_cmp a b ≡ Equal → ⊥) where
  by_runs : is_digit a ≡ true → is_digit b ≡ true → prefix_len is_digit xs ≡ prefix_len is_digit ys
      → slice_cmp piece_order (pieces_after o (a ∷ xs)) (pieces_after o (b ∷ ys)) ≡ nat_cmp a b
  by_runs h k e =
      ap (λ ps. slice_cmp piece_order ps (pieces_after o (b ∷ ys))) (behind_first o a xs h)
      ∙ ap (λ qs. slice_cmp piece_order (run (number_after n left_run) ∷ pieces (drop (prefix_len is_digit xs) xs)) qs) (behind_first o b ys k)
      ∙ ap (λ c. ordering_then c rest) numbers
      ∙ first_wins (nat_cmp a b) rest apart
    where
      n : ℕ
      n = unwrap_or o 0

      left_run : List ℕ
      left_run = a ∷ digits_in xs

      right_run : List ℕ
      right_run = b ∷ digits_in ys

      rest : Ordering
      rest = slice_cmp piece_order (pieces (drop (prefix_len is_digit xs) xs)) (pieces (drop (prefix_len is_digit ys) ys))

      long : length left_run ≡ length right_run
      long = ap suc (
          length-take-le (prefix_len is_digit xs) xs (prefix_len-le-length is_digit xs)
          ∙ e
          ∙ sym (length-take-le (prefix_len is_digit ys) ys (prefix_len-le-length is_digit ys)))

      numbers : piece_order (run (number_after n left_run)) (run (number_after n right_run)) ≡ nat_cmp a b
      numbers =
          run_order (number_after n left_run) (number_after n right_run)
          ∙ sym (same_length n left_run right_run long (all_digits a xs h) (all_digits b ys k))
          ∙ first_wins (nat_cmp a b) (slice_cmp nat_cmp (digits_in xs) (digits_in ys)) apart

  others : slice_cmp piece_order (other a ∷ pieces xs) (other b ∷ pieces ys) ≡ nat_cmp a b
  others =
      ap (λ c. ordering_then c (slice_cmp piece_order (pieces xs) (pieces ys))) (first_wins (nat_cmp a b) (nat_cmp 0 0) apart)
      ∙ first_wins (nat_cmp a b) (slice_cmp piece_order (pieces xs) (pieces ys)) apart

by_others : (o : Option ℕ) (a b : ℕ) (xs ys : List ℕ) → (nat_cmp a b ≡ Equal → ⊥) → is_digit a ≡ false → is_digit b ≡ false
    → slice_cmp piece_order (pieces_after o (a ∷ xs)) (pieces_after o (b ∷ ys)) ≡ nat_cmp a b
by_others None a b xs ys apart h k = rw (h, k) (others None a b xs ys apart)
by_others (Some n) a b xs ys apart h k =
    rw (h, k) (same_first (run n) (other a ∷ pieces xs) (other b ∷ pieces ys) ∙ others None a b xs ys apart)

by_kind : (o : Option ℕ) (a b : ℕ) (xs ys : List ℕ) → (nat_cmp a b ≡ Equal → ⊥)
    → prefix_len is_digit (a ∷ xs) ≡ prefix_len is_digit (b ∷ ys)
    → (s t : Bool) → is_digit a ≡ s → is_digit b ≡ t
    → slice_cmp piece_order (pieces_after o (a ∷ xs)) (pieces_after o (b ∷ ys)) ≡ nat_cmp a b
by_kind o a b xs ys apart e true true h k =
    by_runs o a b xs ys apart h k (omega (arith, e, count_digit a xs h, count_digit b ys k))
by_kind o a b xs ys apart e true false h k = absurd (omega (arith, e, count_digit a xs h, count_other b ys k))
by_kind o a b xs ys apart e false true h k = absurd (omega (arith, e, count_other a xs h, count_digit b ys k))
by_kind o a b xs ys apart e false false h k = by_others o a b xs ys apart h k

-- the next byte decides
pub next_decides : (o : Option ℕ) (xs ys : List ℕ) → 1 ≤ length xs → 1 ≤ length ys
    → (nat_cmp (get_or xs 0 0) (get_or ys 0 0) ≡ Equal → ⊥) → prefix_len is_digit xs ≡ prefix_len is_digit ys
    → slice_cmp piece_order (pieces_after o xs) (pieces_after o ys) ≡ nat_cmp (get_or xs 0 0) (get_or ys 0 0)
next_decides o [] ys h k apart e = absurd (omega arith)
next_decides o (a ∷ xs) [] h k apart e = absurd (omega arith)
next_decides o (a ∷ xs) (b ∷ ys) h k apart e = by_kind o a b xs ys apart e (is_digit a) (is_digit b) refl refl
