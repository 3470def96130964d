-- Tests over lists and over what their elements stand for.
use Rattle.std.proofs.Common.{◌≡◌, ℕ, ◌+◌, ◌<◌, ◌≤◌, Bool, true, false, not, ◌&&◌, ◌||◌, List, [], ◌∷◌, ◌++◌, map, take, length, get_or}
use Rattle.std.proofs.Common.{Option, Some, None, refl, ap, sym, ◌∙◌, arith, suc, zero, append-nil}
use Rattle.std.specs.Prelude.{filter, filter_map, flat_map, position}
use Rattle.std.specs.List.{list_any, list_all, cons_option, position_from}
use Rattle.std.proofs.lemmas.Bool.{and_parts, and_from}
use Rattle.std.proofs.lemmas.Iterator.Adapters.{position_from-zero}
use Rattle.std.proofs.lemmas.List.{append_assoc, map-append, take_more, take_all}
use Rattle.std.proofs.lemmas.List.Elements.{filter-append, filter_map-append}
use Rattle.std.proofs.lemmas.List.Concat.{flat_map-append}
use Rattle.std.proofs.lemmas.List.Folds.{list_all-append, list_any-append}
use Rattle.audit_laws.specs.determinism.Contexts.{same_by}

pub any_seen : {X Y : Type 0} (p : Y → Bool) (view : X → Y) (xs : List X) → list_any (λ x. p (view x)) xs ≡ list_any p (map view xs)
any_seen p view [] = refl
any_seen p view (x ∷ xs) = ap (λ (b : Bool). p (view x) || b) (any_seen p view xs)

-- one element more that is kept, or not
pub kept_more : {X Y Z : Type 0} (f : Y → Option Z) (view : X → Y) (xs : List X) (i : ℕ) (x : X) (old new : List Z) → i < length xs → x ≡ get_or xs i x
    → old ≡ filter_map f (map view (take i xs)) → new ≡ old ++ cons_option (f (view x)) []
    → new ≡ filter_map f (map view (take (i + 1) xs))
kept_more f view xs i x old new l e before now =
    let split : map view (take (i + 1) xs) ≡ map view (take i xs) ++ view x ∷ [] = ap (map view) (take_more xs i x l ∙ ap (λ (y : _). take i xs ++ y ∷ []) (sym e)) ∙ map-append view (take i xs) (x ∷ []) in
    now ∙ (ap (λ (l : List _). l ++ cons_option (f (view x)) []) before ∙ sym (ap (filter_map f) split ∙ filter_map-append f (map view (take i xs)) (view x ∷ [])))

-- ---- the first that fails a test

pub first_from : {X : Type 0} (q : X → Bool) (xs : List X) (i k : ℕ) (x : X) → i < length xs → list_all q (take i xs) ≡ true → x ≡ get_or xs i x → q x ≡ false
    → position_from (λ y. not (q y)) k xs ≡ Some (k + i)
first_from q [] i k x l before e now = absurd (omega arith)
first_from q (y ∷ xs) zero k x l before e now = let same : k ≡ k + 0 = omega arith in rw (ap q (sym e) ∙ now) (ap (λ (n : ℕ). Some n) same)
first_from q (y ∷ xs) (suc i) k x l before e now =
    let p = and_parts (q y) (list_all q (take i xs)) before in
    let same : (k + 1) + i ≡ k + suc i = omega arith in
    rw (p.0) (first_from q xs i (k + 1) x (omega arith) p.1 e now ∙ ap (λ (n : ℕ). Some n) same)

pub none_from : {X : Type 0} (q : X → Bool) (xs : List X) (k : ℕ) → list_all q xs ≡ true → position_from (λ x. not (q x)) k xs ≡ None
none_from q [] k h = refl
none_from q (x ∷ xs) k h = let p = and_parts (q x) (list_all q xs) h in rw p.0 (none_from q xs (k + 1) p.1)

pub first_place : {X : Type 0} (q : X → Bool) (xs : List X) (i : ℕ) (x : X) → i < length xs → list_all q (take i xs) ≡ true → x ≡ get_or xs i x → q x ≡ false
    → position (λ y. not (q y)) xs ≡ Some i
first_place q xs i x l before e now =
    let same : 0 + i ≡ i = omega arith in
    position_from-zero (λ y. not (q y)) xs ∙ (first_from q xs i 0 x l before e now ∙ ap (λ (n : ℕ). Some n) same)

pub no_place : {X : Type 0} (q : X → Bool) (xs : List X) (i : ℕ) → length xs ≤ i → list_all q (take i xs) ≡ true → position (λ x. not (q x)) xs ≡ None
no_place q xs i l h = position_from-zero (λ x. not (q x)) xs ∙ none_from q xs 0 (ap (list_all q) (sym (take_all i xs l)) ∙ h)

pub all_more : {X : Type 0} (q : X → Bool) (xs : List X) (i : ℕ) (x : X) → i < length xs → x ≡ get_or xs i x → list_all q (take i xs) ≡ true → q x ≡ true → list_all q (take (i + 1) xs) ≡ true
all_more q xs i x l e h k =
    ap (list_all q) (take_more xs i x l ∙ ap (λ (y : _). take i xs ++ y ∷ []) (sym e))
    ∙ (list_all-append q (take i xs) (x ∷ []) ∙ and_from (list_all q (take i xs)) (q x && true) h (and_from (q x) true k refl))

-- ---- one list beside another

pub unlike_lengths : {X : Type 0} (same : X → X → Bool) (xs ys : List X) → (length xs ≡ length ys → ⊥) → same_by same xs ys ≡ false
unlike_lengths same [] [] h = absurd (h refl)
unlike_lengths same [] (y ∷ ys) h = refl
unlike_lengths same (x ∷ xs) [] h = refl
unlike_lengths same (x ∷ xs) (y ∷ ys) h = second_false (same x y) (same_by same xs ys) (unlike_lengths same xs ys (λ e. h (ap suc e)))
  where
    second_false : (a b : Bool) → b ≡ false → (a && b) ≡ false
    second_false true b h = h
    second_false false b h = refl

-- ---- tests of all, and of one

pub all_seen : {X Y : Type 0} (p : Y → Bool) (view : X → Y) (xs : List X) → list_all (λ x. p (view x)) xs ≡ list_all p (map view xs)
all_seen p view [] = refl
all_seen p view (x ∷ xs) = ap (λ (b : Bool). p (view x) && b) (all_seen p view xs)

pub fails_here : {X : Type 0} (q : X → Bool) (xs : List X) (i : ℕ) (x : X) → i < length xs → x ≡ get_or xs i x → q x ≡ false → list_all q xs ≡ false
fails_here q [] i x l e f = absurd (omega arith)
fails_here q (y ∷ xs) zero x l e f = rw (ap q (sym e) ∙ f) refl
fails_here q (y ∷ xs) (suc i) x l e f = either (q y) (list_all q xs) (fails_here q xs i x (omega arith) e f)
  where
    either : (a b : Bool) → b ≡ false → (a && b) ≡ false
    either true b h = h
    either false b h = refl

pub none_fails : {X : Type 0} (q : X → Bool) (xs : List X) (i : ℕ) → length xs ≤ i → list_all q (take i xs) ≡ true → list_all q xs ≡ true
none_fails q xs i l h = ap (list_all q) (sym (take_all i xs l)) ∙ h

-- one more is tested
pub any_more : {X Y : Type 0} (p : Y → Bool) (view : X → Y) (xs : List X) (i : ℕ) (x : X) (old new : Bool) → i < length xs → x ≡ get_or xs i x
    → old ≡ list_any p (map view (take i xs)) → new ≡ (old || p (view x)) → new ≡ list_any p (map view (take (i + 1) xs))
any_more p view xs i x old new l e before now =
    let split : map view (take (i + 1) xs) ≡ map view (take i xs) ++ view x ∷ [] = ap (map view) (take_more xs i x l ∙ ap (λ (y : _). take i xs ++ y ∷ []) (sym e)) ∙ map-append view (take i xs) (x ∷ []) in
    now ∙ (ap (λ (b : Bool). b || p (view x)) before ∙ (last (list_any p (map view (take i xs))) (p (view x))
    ∙ sym (ap (list_any p) split ∙ list_any-append p (map view (take i xs)) (view x ∷ []))))
  where
    last : (a b : Bool) → (a || b) ≡ (a || (b || false))
    last true b = refl
    last false true = refl
    last false false = refl

-- one element more, where it passes the test
pub filter_more : {X Y : Type 0} (p : Y → Bool) (view : X → Y) (xs : List X) (i : ℕ) (x : X) (old new : List Y) → i < length xs → x ≡ get_or xs i x
    → old ≡ filter p (map view (take i xs)) → new ≡ old ++ filter p (view x ∷ []) → new ≡ filter p (map view (take (i + 1) xs))
filter_more p view xs i x old new l e before now =
    let split : map view (take (i + 1) xs) ≡ map view (take i xs) ++ view x ∷ [] = ap (map view) (take_more xs i x l ∙ ap (λ (y : _). take i xs ++ y ∷ []) (sym e)) ∙ map-append view (take i xs) (x ∷ []) in
    now ∙ (ap (λ (ys : List _). ys ++ filter p (view x ∷ [])) before ∙ sym (ap (filter p) split ∙ filter-append p (map view (take i xs)) (view x ∷ [])))

-- one more list is added
pub flat_more : {X Y Z : Type 0} (f : Y → List Z) (view : X → Y) (xs : List X) (i : ℕ) (x : X) (before old new : List Z) → i < length xs → x ≡ get_or xs i x
    → old ≡ before ++ flat_map f (map view (take i xs)) → new ≡ old ++ f (view x) → new ≡ before ++ flat_map f (map view (take (i + 1) xs))
flat_more f view xs i x before old new l e so_far now =
    let split : map view (take (i + 1) xs) ≡ map view (take i xs) ++ view x ∷ [] = ap (map view) (take_more xs i x l ∙ ap (λ (y : _). take i xs ++ y ∷ []) (sym e)) ∙ map-append view (take i xs) (x ∷ []) in
    now ∙ (ap (λ (zs : List _). zs ++ f (view x)) so_far ∙ (append_assoc before (flat_map f (map view (take i xs))) (f (view x))
    ∙ ap (λ (zs : List _). before ++ zs) (ap (λ (zs : List _). flat_map f (map view (take i xs)) ++ zs) (sym (append-nil (f (view x))))
    ∙ sym (ap (flat_map f) split ∙ flat_map-append f (map view (take i xs)) (view x ∷ [])))))
