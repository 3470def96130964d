-- Lists of values of the code, and what is found in them.
use Rattle.std.proofs.Common.{◌≡◌, Bor, Bool, true, false, cond, ◌&&◌, ◌||◌, List, [], ◌∷◌, ◌++◌, map, reverse, find}
use Rattle.std.proofs.Common.{Option, Some, None, refl, sym, ap, ◌∙◌}
use Rattle.std.specs.List.{list_all, list_any}
use Rattle.std.proofs.lemmas.List.{reverse-append, map-append}
use Rattle.std.specs.Option.{option_map}
use Rattle.std.specs.Prelude.{string_bytes, String}
use Rattle.std.specs.declared.alloc.Global.{Global}

-- a test over what the values are
pub any_seen : {X Y : Type 0} (test : Y → Bool) (view : X → Y) (xs : List X) → list_any (λ x. test (view x)) xs ≡ list_any test (map view xs)
any_seen test view [] = refl
any_seen test view (x ∷ xs) = ap (λ b. test (view x) || b) (any_seen test view xs)

pub all_seen : {X Y : Type 0} (test : Y → Bool) (view : X → Y) (xs : List X) → list_all (λ x. test (view x)) xs ≡ list_all test (map view xs)
all_seen test view [] = refl
all_seen test view (x ∷ xs) = ap (λ b. test (view x) && b) (all_seen test view xs)

find_map : {X Y : Type 0} (test : Y → Bool) (view : X → Y) (xs : List X) → option_map view (find (λ x. test (view x)) xs) ≡ find test (map view xs)
find_map test view [] = refl
find_map {X} {Y} test view (x ∷ xs) = by_test (test (view x)) (find_map test view xs)
  where
    by_test : (b : Bool) → option_map view (find (λ x. test (view x)) xs) ≡ find test (map view xs)
        → option_map view (cond b (Some x) (find (λ x. test (view x)) xs)) ≡ cond b (Some (view x)) (find test (map view xs))
    by_test true h = refl
    by_test false h = h

lent : {X Y : Type 0} (view : X → Y) (r : Option (Bor X)) → option_map (λ x. view x.now) r ≡ option_map view (option_map (λ x. x.now) r)
lent view None = refl
lent view (Some x) = refl

-- what is found of them
pub find_seen : {X Y : Type 0} (test : Y → Bool) (view : X → Y) (xs : List X) (r : Option (Bor X)) → option_map (λ x. x.now) r ≡ find (λ x. test (view x)) xs
    → option_map (λ x. view x.now) r ≡ find test (map view xs)
find_seen test view xs r h = lent view r ∙ (ap (option_map view) h ∙ find_map test view xs)

pub map-reverse : {X Y : Type 0} (view : X → Y) (xs : List X) → map view (reverse xs) ≡ reverse (map view xs)
map-reverse view [] = refl
map-reverse {X} {Y} view (x ∷ xs) =
    ap (map view) (reverse-append (x ∷ []) xs)
    ∙ (map-append view (reverse xs) (x ∷ []) ∙ (ap (λ (l : List Y). l ++ view x ∷ []) (map-reverse view xs) ∙ sym (reverse-append (view x ∷ []) (map view xs))))

pub names_reverse : (xs : List (String Global)) → map (λ (s : String Global). string_bytes s) (reverse xs) ≡ reverse (map (λ (s : String Global). string_bytes s) xs)
names_reverse xs = map-reverse (λ (s : String Global). string_bytes s) xs
