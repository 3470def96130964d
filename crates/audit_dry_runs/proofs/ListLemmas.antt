-- The last of a list.
use Rattle.std.proofs.Common.{◌≡◌, List, [], ◌∷◌, ◌++◌, Option, Some, None, refl, sym, ap, ◌∙◌}

abbrev last_after : {A : Type 0} → A → List A → A
last_after x [] = x
last_after x (y ∷ ys) = last_after y ys

abbrev last_in : {A : Type 0} → List A → Option A
last_in [] = None
last_in (x ∷ xs) = Some (last_after x xs)

last_after_end : {A : Type 0} (y : A) (xs : List A) (x : A) → last_after y (xs ++ x ∷ []) ≡ x
last_after_end y [] x = refl
last_after_end y (z ∷ zs) x = last_after_end z zs x

last_at_end : {A : Type 0} (xs : List A) (x : A) → last_in (xs ++ x ∷ []) ≡ Some x
last_at_end [] x = refl
last_at_end (y ∷ ys) x = ap Some (last_after_end y ys x)

-- lists with the same last element
pub same_last : {A : Type 0} (xs ys : List A) (x y : A) → xs ++ x ∷ [] ≡ ys ++ y ∷ [] → x ≡ y
same_last xs ys x y h =
    let k : Some x ≡ Some y = sym (last_at_end xs x) ∙ (ap last_in h ∙ last_at_end ys y) in
    cc
