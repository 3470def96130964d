-- Searches of rows.
use Rattle.std.proofs.Common.{◌≡◌, Bor, Bool, true, false, cond, List, [], ◌∷◌, map, find, Option, Some, refl, ap, ◌∙◌}
use Rattle.std.specs.Option.{option_map, option_copied}

find_map : {X Y : Type 0} (test : Y → Bool) (view : X → Y) (xs : List X) → option_map view (find (λ x. test (view x)) xs) ≡ find test (map view xs)
find_map test view [] = refl
find_map {X} {Y} test view (x ∷ xs) = by_test (test (view x)) (find_map test view xs)
  where
    by_test : (b : Bool) → option_map view (find (λ x. test (view x)) xs) ≡ find test (map view xs)
        → option_map view (cond b (Some x) (find (λ x. test (view x)) xs)) ≡ cond b (Some (view x)) (find test (map view xs))
    by_test true h = refl
    by_test false h = h

-- what is found among rows of the code is found among what they stand for
pub find_seen : {X Y : Type 0} (test : Y → Bool) (view : X → Y) (xs : List X) (ys : List Y) (r : Option (Bor X)) → option_copied r ≡ find (λ x. test (view x)) xs → map view xs ≡ ys
    → option_map view (option_copied r) ≡ find test ys
find_seen test view xs ys r h e = ap (option_map view) h ∙ (find_map test view xs ∙ ap (find test) e)
