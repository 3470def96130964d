-- Tests of lists.
use Rattle.std.proofs.Common.{◌≡◌, Bool, ◌||◌, List, [], ◌∷◌, map, refl, ap}
use Rattle.std.specs.List.{list_any}

-- a test of values of the code is one of what they stand for
pub any_seen : {X Y : Type 0} (test : Y → Bool) (view : X → Y) (xs : List X) → list_any (λ x. test (view x)) xs ≡ list_any test (map view xs)
any_seen test view [] = refl
any_seen test view (x ∷ xs) = ap (λ b. test (view x) || b) (any_seen test view xs)
