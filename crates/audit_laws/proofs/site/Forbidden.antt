-- A load that nothing forbids is of a module that is in conflict with no entry of the loaded list.
use Rattle.std.proofs.Common.{◌≡◌, Bool, true, false, cond, ◌||◌, List, [], ◌∷◌, Option, Some, None, find, refl}
use Rattle.std.specs.List.{list_any}
use Rattle.std.specs.Option.{option_map, option_or}
use Rattle.modulename.specs.ModuleName.{means}
use Rattle.envvars.specs.Texts.{Text}
use Rattle.envvars.proofs.TextLemmas.{or_left, or_right}
use Rattle.envstate.specs.loaded_list.Loaded.{Entry}
use Rattle.modulefile.specs.Records.{conflict_names, prereq_groups}
use Rattle.modulefile.specs.Moves.{Module}
use Rattle.requests.specs.Reasons.{RequestReason, conflict_with, prereq_missing}
use Rattle.requests.specs.Conditions.{recorded_conflict, own_conflict, missing_group, load_objection}
use Rattle.audit_certificate.specs.Clashes.{in_conflict_with_entry}

neither : {X : Type 0} (o p : Option X) → option_or o p ≡ None → (o ≡ None) × (p ≡ None)
neither None p h = (refl, h)
neither (Some x) p h = absurd (cc)

no_map : {X Y : Type 0} (f : X → Y) (o : Option X) → option_map f o ≡ None → o ≡ None
no_map f None h = refl
no_map f (Some x) h = absurd (cc)

none_at : {X : Type 0} (p : X → Bool) (x : X) (xs : List X) (b : Bool) → cond b (Some x) (find p xs) ≡ None → (find p xs ≡ None → list_any p xs ≡ false) → (b || list_any p xs) ≡ false
none_at p x xs true h k = absurd (cc)
none_at p x xs false h k = k h

none_found : {X : Type 0} (p : X → Bool) (xs : List X) → find p xs ≡ None → list_any p xs ≡ false
none_found p [] h = refl
none_found p (x ∷ xs) h = none_at p x xs (p x) h (none_found p xs)

or_none : (a b : Bool) → a ≡ false → b ≡ false → (a || b) ≡ false
or_none a b h k = rw (h, k) refl

none_of_two : {X : Type 0} (p q : X → Bool) (xs : List X) → list_any p xs ≡ false → list_any q xs ≡ false → list_any (λ x. p x || q x) xs ≡ false
none_of_two p q [] h k = refl
none_of_two p q (x ∷ xs) h k =
    or_none (p x || q x) (list_any (λ y. p y || q y) xs)
    (or_none (p x) (q x) (or_left (p x) (list_any p xs) h) (or_left (q x) (list_any q xs) k))
    (none_of_two p q xs (or_right (p x) (list_any p xs) h) (or_right (q x) (list_any q xs) k))

no_name : {X : Type 0} (xs : List X) → list_any (λ x. false) xs ≡ false
no_name [] = refl
no_name (x ∷ xs) = no_name xs

none_meant : (names : List Text) (xs : List Entry) → own_conflict names xs ≡ None → list_any (λ x. list_any (λ name. means name x.name) names) xs ≡ false
none_meant [] xs h = no_name xs
none_meant (name ∷ names) xs h =
    let p = neither (find (λ x. means name x.name) xs) (own_conflict names xs) h in
    none_of_two (λ x. means name x.name) (λ x. list_any (λ n. means n x.name) names) xs (none_found (λ x. means name x.name) xs p.0) (none_meant names xs p.1)

pub no_conflict : (m : Module) (xs : List Entry) → load_objection m.name m.records xs ≡ None → list_any (in_conflict_with_entry m) xs ≡ false
no_conflict m xs h =
    let conflict : Entry → RequestReason = λ x. conflict_with x.name in
    let own = option_map conflict (own_conflict (conflict_names m.records) xs) in
    let missing = option_map prereq_missing (missing_group (prereq_groups m.records) xs) in
    let p = neither (option_map conflict (recorded_conflict m.name xs)) (option_or own missing) h in
    let q = neither own missing p.1 in
    none_of_two (λ x. list_any (λ name. means name x.name) (conflict_names m.records)) (λ x. list_any (λ name. means name m.name) x.conflicts) xs
    (none_meant (conflict_names m.records) xs (no_map conflict (own_conflict (conflict_names m.records) xs) q.0))
    (none_found (λ x. list_any (λ name. means name m.name) x.conflicts) xs (no_map conflict (recorded_conflict m.name xs) p.0))
