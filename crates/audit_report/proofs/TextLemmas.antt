-- Texts that are added one after another.
use Rattle.std.proofs.Common.{◌≡◌, ℕ, List, [], ◌∷◌, ◌++◌, Bor, flat_map, map, refl, ap, ◌∙◌, append_assoc}
use Rattle.std.specs.Prelude.{Result, Ok, Err, OnOk}

-- a text, and then what a last call adds
pub more : {X E : Type 0} (r : Result X E) (a b c x y : List ℕ) → b ≡ a ++ x → OnOk r (c ≡ b ++ y) → OnOk r (c ≡ a ++ (x ++ y))
more (Ok u) a b c x y e f = f ∙ (ap (λ (l : List ℕ). l ++ y) e ∙ append_assoc a x y)
more (Err u) a b c x y e f = tt

-- what is made of each text, where the texts are borrowed
pub flat_map-now : (f : List ℕ → List ℕ) (xs : List (Bor (List ℕ))) → flat_map (λ (x : Bor (List ℕ)). f x.now) xs ≡ flat_map f (map (λ (x : Bor (List ℕ)). x.now) xs)
flat_map-now f [] = refl
flat_map-now f (x ∷ xs) = ap (λ (l : List ℕ). f x.now ++ l) (flat_map-now f xs)
