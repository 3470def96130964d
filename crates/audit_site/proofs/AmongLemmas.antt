-- Members of lists.
use Rattle.std.proofs.Common.{◌≡◌, ◌⊎◌, inl, inr, ℕ, zero, suc, ◌+◌, ◌<◌, List, [], ◌∷◌, ◌++◌, map, take, length}
use Rattle.std.proofs.Common.{get_or, refl, sym, ap, ◌∙◌, subst, arith}
use Rattle.std.specs.Prelude.{◌↔◌}
use Rattle.std.proofs.lemmas.List.{take_more}
use Rattle.audit_certificate.specs.RecordUses.{IsAmong}
use Rattle.audit_certificate.proofs.UsedLemmas.{by_cases, among_left, among_right, among_either}

-- the image of a member
pub among_map : {X Y : Type 0} (f : X → Y) (x : X) (xs : List X) → IsAmong x xs → IsAmong (f x) (map f xs)
among_map f x [] h = absurd h
among_map f x (y ∷ xs) (inl e) = inl (ap f e)
among_map f x (y ∷ xs) (inr h) = inr (among_map f x xs h)

-- each member of an image is one
pub of_map : {X Y : Type 0} (f : X → Y) (y : Y) (xs : List X) → IsAmong y (map f xs) → (x : X) × IsAmong x xs × (f x ≡ y)
of_map f y [] h = absurd h
of_map f y (x ∷ xs) (inl e) = (x, inl refl, sym e)
of_map f y (x ∷ xs) (inr h) = let i = of_map f y xs h in (i.0, inr i.1, i.2)

-- a member by its place
pub among_at : {X : Type 0} (xs : List X) (i : ℕ) (x : X) → i < length xs → x ≡ get_or xs i x → IsAmong x xs
among_at [] i x l e = absurd (omega arith)
among_at (y ∷ ys) zero x l e = inl e
among_at (y ∷ ys) (suc i) x l e = inr (among_at ys i x (omega arith) e)

-- ---- one more at a time

-- one more
pub among_one : {X : Type 0} (x y : X) (xs : List X) → IsAmong x (xs ++ y ∷ []) ↔ (IsAmong x xs ⊎ (x ≡ y))
among_one x y xs = (
  (λ h. by_cases (among_either x xs (y ∷ []) h) (λ k. inl k) (λ k. by_cases k (λ e. inr e) (λ no. absurd no))),
  (λ h. by_cases h (λ k. among_left x xs (y ∷ []) k) (λ e. among_right x xs (y ∷ []) (inl e))),
)

-- one more of a slice
pub taken : {X : Type 0} (xs : List X) (i : ℕ) (x : X) → i < length xs → x ≡ get_or xs i x → take (i + 1) xs ≡ take i xs ++ x ∷ []
taken xs i x l e = take_more xs i x l ∙ ap (λ y. take i xs ++ y ∷ []) (sym e)

-- what holds of one of the first, or of the next, holds of one of those with the next
pub one_more : {X : Type 0} (P : X → Type 0) (xs : List X) (i : ℕ) (x : X) → i < length xs → x ≡ get_or xs i x
    → (((y : X) × IsAmong y (take i xs) × P y) ⊎ P x) ↔ ((y : X) × IsAmong y (take (i + 1) xs) × P y)
one_more {X} P xs i x l e = (
  (λ h. by_cases h
      (λ k. (k.0, subst (IsAmong k.0) (sym (taken xs i x l e)) (among_left k.0 (take i xs) (x ∷ []) k.1), k.2))
      (λ p. (x, subst (IsAmong x) (sym (taken xs i x l e)) (among_right x (take i xs) (x ∷ []) (inl refl)), p))),
  (λ k. by_cases ((among_one k.0 x (take i xs)).0 (subst (IsAmong k.0) (taken xs i x l e) k.1))
      (λ a. inl (k.0, a, k.2))
      (λ same. inr (subst P same k.2))),
)
