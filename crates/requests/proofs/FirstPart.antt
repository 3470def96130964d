-- The first part of a name, by the cut at its first slash.
use Rattle.std.proofs.Common.{◌≡◌, ◌<◌, ℕ, suc, Bor, false, List, [], ◌∷◌, ◌++◌, length, get_or, Option, Some, None}
use Rattle.std.proofs.Common.{MatchOption, refl, sym, ap, ◌∙◌, arith, lit<}
use Rattle.std.specs.Prelude.{◌==◌}
use Rattle.std.specs.List.{slice_split, onto_first}
use Rattle.std.proofs.lemmas.Bool.Decides.{nat_tests}
use Rattle.std.proofs.lemmas.List.Splits.{slice_split-cons_no}
use Rattle.std.proofs.lemmas.Str.Pattern.{IsSplitOnceResult, split_parts}
use Rattle.requests.specs.Steps.{first_part}

not_slash : (b : ℕ) → (b ≡ 47 → ⊥) → (b == 47) ≡ false
not_slash b h = grind (arith, nat_tests)

uncut : (bs : List ℕ) → ((i : ℕ) → i < length bs → get_or bs i 0 ≡ 47 → ⊥) → slice_split (λ b. b == 47) bs ≡ bs ∷ []
uncut [] h = refl
uncut (b ∷ bs) h =
    slice_split-cons_no (λ x. x == 47) b bs (not_slash b (h 0 (omega arith))) ∙ ap (onto_first b) (uncut bs (λ i l. h (suc i) (omega arith)))

cut : (xs ys : List ℕ) → ((i : ℕ) → i < length xs → get_or xs i 0 ≡ 47 → ⊥) → slice_split (λ b. b == 47) (xs ++ 47 ∷ ys) ≡ xs ∷ slice_split (λ b. b == 47) ys
cut [] ys h = refl
cut (x ∷ xs) ys h =
    slice_split-cons_no (λ b. b == 47) x (xs ++ 47 ∷ ys) (not_slash x (h 0 (omega arith))) ∙ ap (onto_first x) (cut xs ys (λ i l. h (suc i) (omega arith)))

pub first_cut : (bs : List ℕ) (r : Option (Bor (List ℕ) × Bor (List ℕ))) → IsSplitOnceResult 47 bs r
    → MatchOption r (bs ≡ first_part (slice_split (λ b. b == 47) bs)) (λ x. x.0.now ≡ first_part (slice_split (λ b. b == 47) bs))
first_cut bs None h = ap first_part (sym (uncut bs (split_parts 47 bs None h (lit< tt))))
first_cut bs (Some x) h =
    let k = split_parts 47 bs (Some x) h (lit< tt) in
    ap first_part (sym (ap (slice_split (λ b. b == 47)) k.0 ∙ cut x.0.now x.1.now k.1))
