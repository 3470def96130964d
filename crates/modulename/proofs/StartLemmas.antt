-- Versions that begin alike.
use Rattle.std.proofs.Common.{◌≡◌, ℕ, true, false, Option, Some, None, List, [], ◌∷◌, refl, sym, ap, ◌∙◌, Ordering}
use Rattle.std.proofs.Common.{Equal}
use Rattle.std.specs.Ordering.{ordering_then}
use Rattle.std.specs.Cmp.Lexicographic.{slice_cmp}
use Rattle.std.proofs.lemmas.Cmp.{then_total, on_total, nat_cmp_total, tied_itself}
use Rattle.modulename.specs.Versions.{Piece, run, other, rank, number, is_digit, with_digit, pieces, pieces_after}
use Rattle.modulename.specs.Versions.{piece_order}

same_piece : (p : Piece) → piece_order p p ≡ Equal
same_piece p = tied_itself (then_total (on_total rank nat_cmp_total) (on_total number nat_cmp_total)) p

-- the same piece in front decides nothing
pub same_first : (p : Piece) (ps qs : List Piece) → slice_cmp piece_order (p ∷ ps) (p ∷ qs) ≡ slice_cmp piece_order ps qs
same_first p ps qs = ap (λ o. ordering_then o (slice_cmp piece_order ps qs)) (same_piece p)

-- the number of a run with one more digit, or of one that begins with it
abbrev pub run_with : Option ℕ → ℕ → ℕ
run_with None b = with_digit 0 b
run_with (Some n) b = with_digit n b

pub same_digit : (o : Option ℕ) (b : ℕ) (xs ys : List ℕ) → is_digit b ≡ true →
    slice_cmp piece_order (pieces_after o (b ∷ xs)) (pieces_after o (b ∷ ys)) ≡ slice_cmp piece_order (pieces_after (Some (run_with o b)) xs) (pieces_after (Some (run_with o b)) ys)
same_digit None b xs ys e = rw e refl
same_digit (Some n) b xs ys e = rw e refl

pub same_other : (o : Option ℕ) (b : ℕ) (xs ys : List ℕ) → is_digit b ≡ false →
    slice_cmp piece_order (pieces_after o (b ∷ xs)) (pieces_after o (b ∷ ys)) ≡ slice_cmp piece_order (pieces xs) (pieces ys)
same_other None b xs ys e = rw e (same_first (other b) (pieces xs) (pieces ys))
same_other (Some n) b xs ys e =
    rw e (same_first (run n) (other b ∷ pieces xs) (other b ∷ pieces ys) ∙ same_first (other b) (pieces xs) (pieces ys))

module _ (all : Ordering) (o : Option ℕ) (b : ℕ) (xs ys ls rs : List ℕ) (first : xs ≡ b ∷ ls) (second : ys ≡ b ∷ rs)
    (before : all ≡ slice_cmp piece_order (pieces_after o xs) (pieces_after o ys)) where
  cuts : all ≡ slice_cmp piece_order (pieces_after o (b ∷ ls)) (pieces_after o (b ∷ rs))
  cuts = before ∙ ap (λ zs. slice_cmp piece_order (pieces_after o zs) (pieces_after o ys)) first ∙ ap (λ zs. slice_cmp piece_order (pieces_after o (b ∷ ls)) (pieces_after o zs)) second

  -- behind a digit that both have
  pub behind_digit : is_digit b ≡ true → all ≡ slice_cmp piece_order (pieces_after (Some (run_with o b)) ls) (pieces_after (Some (run_with o b)) rs)
  behind_digit e = cuts ∙ same_digit o b ls rs e

  -- behind another byte that both have
  pub behind_other : is_digit b ≡ false → all ≡ slice_cmp piece_order (pieces ls) (pieces rs)
  behind_other e = cuts ∙ same_other o b ls rs e
