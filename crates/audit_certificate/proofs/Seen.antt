-- Lists of values of the code, and of what they stand for.
use Rattle.std.proofs.Common.{◌≡◌, Bor, Bool, true, false, cond, ◌||◌, ◌+◌, ◌<◌, ℕ, List, [], ◌∷◌, ◌++◌, map, find, take}
use Rattle.std.proofs.Common.{length, get_or, Option, Some, None, refl, sym, ap, ◌∙◌}
use Rattle.std.specs.List.{list_any}
use Rattle.std.specs.Option.{option_map}
use Rattle.std.proofs.lemmas.List.{take_more, map-append}

-- a test over what the values are
pub any_seen : {X Y : Type 0} (test : Y → Bool) (view : X → Y) (xs : List X) → list_any (λ x. test (view x)) xs ≡ list_any test (map view xs)
any_seen test view [] = refl
any_seen test view (x ∷ xs) = ap (λ b. test (view x) || b) (any_seen test view xs)

find_map : {X Y : Type 0} (test : Y → Bool) (view : X → Y) (xs : List X) → option_map view (find (λ x. test (view x)) xs) ≡ find test (map view xs)
find_map test view [] = refl
find_map {X} {Y} test view (x ∷ xs) = by_test (test (view x)) (find_map test view xs)
  where
    by_test : (b : Bool) → option_map view (find (λ x. test (view x)) xs) ≡ find test (map view xs)
        → option_map view (cond b (Some x) (find (λ x. test (view x)) xs)) ≡ cond b (Some (view x)) (find test (map view xs))
    by_test true h = refl
    by_test false h = h

lent : {X Y : Type 0} (view : X → Y) (r : Option (Bor X)) → option_map (λ x. view x.now) r ≡ option_map view (option_map (λ x. x.now) r)
lent view None = refl
lent view (Some x) = refl

-- what is found of them
pub find_seen : {X Y : Type 0} (test : Y → Bool) (view : X → Y) (xs : List X) (r : Option (Bor X)) → option_map (λ x. x.now) r ≡ find (λ x. test (view x)) xs
    → option_map (λ x. view x.now) r ≡ find test (map view xs)
find_seen test view xs r h = lent view r ∙ (ap (option_map view) h ∙ find_map test view xs)

-- one value more
pub turn : {X Y Z : Type 0} (view : X → Y) (of : List Y → List Z) → ((xs ys : List Y) → of (xs ++ ys) ≡ of xs ++ of ys)
    → (ts us : List Z) (xs : List X) (i : ℕ) (x : X) → i < length xs → x ≡ get_or xs i x
    → ts ≡ of (map view (take i xs)) → us ≡ ts ++ of (view x ∷ []) → us ≡ of (map view (take (i + 1) xs))
turn {X} {Y} {Z} view of append ts us xs i x l e h k =
    k ∙ (ap (λ (t : List Z). t ++ of (view x ∷ [])) h ∙ (sym (append (map view (take i xs)) (view x ∷ []))
    ∙ ap of (sym (ap (map view) (take_more xs i x l ∙ ap (λ (y : X). take i xs ++ y ∷ []) (sym e)) ∙ map-append view (take i xs) (x ∷ [])))))
