-- What is among the members of a list.
use Rattle.std.proofs.Common.{◌≡◌, inl, inr, ℕ, ◌<◌, ◌≤◌, length, get_or, arith, suc, zero, List, [], ◌∷◌, ◌++◌, map}
use Rattle.std.proofs.Common.{flat_map, take, slice_get, Some, None, refl, sym, ap, ◌∙◌, subst}
use Rattle.std.proofs.lemmas.List.{map-append}
use Rattle.audit_certificate.specs.RecordUses.{IsAmong}
use Rattle.audit_certificate.proofs.UsedLemmas.{by_cases, among_left, among_right, among_either}

module _ {X : Type 0} where
  -- at a place
  pub at_place : (x : X) (xs : List X) (n : ℕ) → slice_get xs n ≡ Some x → IsAmong x xs
  at_place x [] n h = absurd (cc)
  at_place x (y ∷ xs) zero h = inl (cc)
  at_place x (y ∷ xs) (suc n) h = inr (at_place x xs n h)

  pub among_at : (xs : List X) (i : ℕ) (x : X) → i < length xs → x ≡ get_or xs i x → IsAmong x xs
  among_at [] i x l e = absurd (omega arith)
  among_at (y ∷ ys) zero x l e = inl e
  among_at (y ∷ ys) (suc i) x l e = inr (among_at ys i x (omega arith) e)

  pub place_below : (x : X) (xs : List X) (n : ℕ) → slice_get xs n ≡ Some x → n < length xs
  place_below x [] n h = absurd (cc)
  place_below x (y ∷ xs) zero h = omega arith
  place_below x (y ∷ xs) (suc n) h = omega (arith, place_below x xs n h)

  pub place_gone : (xs : List X) (n : ℕ) → slice_get xs n ≡ None → length xs ≤ n
  place_gone [] n h = omega arith
  place_gone (y ∷ xs) zero h = absurd (cc)
  place_gone (y ∷ xs) (suc n) h = omega (arith, place_gone xs n h)

  pub take_next : (n : ℕ) (xs rest : List X) (x : X) → slice_get xs n ≡ Some x → take (suc n) (xs ++ rest) ≡ take n xs ++ x ∷ []
  take_next n [] rest x h = absurd (cc)
  take_next zero (y ∷ xs) rest x h = let e : y ≡ x = cc in ap (λ (z : X). z ∷ []) e
  take_next (suc n) (y ∷ xs) rest x h = ap (λ (l : List X). y ∷ l) (take_next n xs rest x h)

  pub take_all_gone : (n : ℕ) (xs : List X) → slice_get xs n ≡ None → take n xs ≡ xs
  take_all_gone zero [] h = refl
  take_all_gone (suc n) [] h = refl
  take_all_gone zero (y ∷ xs) h = absurd (cc)
  take_all_gone (suc n) (y ∷ xs) h = ap (λ (l : List X). y ∷ l) (take_all_gone n xs h)

module _ {X Y : Type 0} (f : X → Y) where
  pub in_map : (x : X) (xs : List X) → IsAmong x xs → IsAmong (f x) (map f xs)
  in_map x [] a = absurd a
  in_map x (y ∷ xs) (inl e) = inl (ap f e)
  in_map x (y ∷ xs) (inr a) = inr (in_map x xs a)

  pub of_map : (y : Y) (xs : List X) → IsAmong y (map f xs) → (x : X) × IsAmong x xs × (y ≡ f x)
  of_map y [] a = absurd a
  of_map y (x ∷ xs) (inl e) = (x, inl refl, e)
  of_map y (x ∷ xs) (inr a) = let i = of_map y xs a in (i.0, inr i.1, i.2)

module _ {X Y : Type 0} (f : X → List Y) where
  pub flat_map_parts : (xs ys : List X) → flat_map f (xs ++ ys) ≡ flat_map f xs ++ flat_map f ys
  flat_map_parts [] ys = refl
  flat_map_parts (x ∷ xs) ys = ap (λ (l : List Y). f x ++ l) (flat_map_parts xs ys) ∙ sym (joined (f x) (flat_map f xs) (flat_map f ys))
    where
      joined : (us vs ws : List Y) → (us ++ vs) ++ ws ≡ us ++ (vs ++ ws)
      joined [] vs ws = refl
      joined (u ∷ us) vs ws = ap (λ (l : List Y). u ∷ l) (joined us vs ws)

  pub in_flat_map : (y : Y) (x : X) (xs : List X) → IsAmong x xs → IsAmong y (f x) → IsAmong y (flat_map f xs)
  in_flat_map y x [] a b = absurd a
  in_flat_map y x (z ∷ xs) (inl e) b = among_left y (f z) (flat_map f xs) (subst (λ (w : X). IsAmong y (f w)) e b)
  in_flat_map y x (z ∷ xs) (inr a) b = among_right y (f z) (flat_map f xs) (in_flat_map y x xs a b)

  pub of_flat_map : (y : Y) (xs : List X) → IsAmong y (flat_map f xs) → (x : X) × IsAmong x xs × IsAmong y (f x)
  of_flat_map y [] a = absurd a
  of_flat_map y (x ∷ xs) a =
      by_cases (among_either y (f x) (flat_map f xs) a)
      (λ (b : IsAmong y (f x)). (x, inl refl, b))
      (λ (b : IsAmong y (flat_map f xs)). let i = of_flat_map y xs b in (i.0, inr i.1, i.2))

pub flat_seen : {X Y Z : Type 0} (f : Y → List Z) (view : X → Y) (xs ys : List X) → flat_map f (map view (xs ++ ys)) ≡ flat_map f (map view xs) ++ flat_map f (map view ys)
flat_seen f view xs ys = ap (flat_map f) (map-append view xs ys) ∙ flat_map_parts f (map view xs) (map view ys)
