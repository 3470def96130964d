-- The first of some versions, from the greatest down, that is a module is the greatest candidate.
use Rattle.std.proofs.Common.{◌≡◌, ℕ, suc, ◌+◌, ◌≤◌, ◌<◌, Bool, true, false, cond, List, [], ◌∷◌, length, get_or, map}
use Rattle.std.proofs.Common.{drop, filter, find, Option, Some, None, Ordering, Less, Equal, Greater, inl, inr, refl}
use Rattle.std.proofs.Common.{sym, ap, ◌∙◌, subst, ⊎_elim, arith}
use Rattle.std.specs.Prelude.{bytes_eq, if◌then◌else◌}
use Rattle.std.specs.Cmp.{IsStrictWeakOrder}
use Rattle.std.specs.List.{list_any, Contains, AllByRecursion}
use Rattle.std.specs.List.Sorted.{IsPermutation, IsSortedBy}
use Rattle.std.specs.Ordering.{is_lt, is_le, ordering_reverse}
use Rattle.std.proofs.lemmas.Bool.{or_cases, or_left, or_right, and_parts, and_from}
use Rattle.std.proofs.lemmas.Cmp.{tied_itself}
use Rattle.std.proofs.lemmas.List.{drop_more}
use Rattle.std.proofs.lemmas.List.Elements.{recursion_from_All}
use Rattle.std.proofs.lemmas.List.Folds.{Any-from_list_any, list_any-from_Any}
use Rattle.std.proofs.lemmas.List.Sorted.{sorted_far, ranks_by, IsStrictWeakOrder-flip, IsPermutation-map}
use Rattle.std.proofs.lemmas.List.Sorted.{IsPermutation-sym, Contains-permutation}
use Rattle.std.proofs.lemmas.Slice.Eq.{bytes_eq-Decides}
use Rattle.modulename.specs.ModuleName.{Text, is_module_name}
use Rattle.modulename.specs.Versions.{version_order}
use Rattle.modulename.proofs.OrderLemmas.{total}
use Rattle.filetree.specs.Agreement.{Files, Listings}
use Rattle.filetree.specs.Modulefiles.{path_of}
use Rattle.search.specs.Single.{is_single}
use Rattle.search.specs.Candidates.{IsCandidate, IsVersionIn, LooksForGreatest}
use Rattle.search.specs.Versions.{is_version, is_module_in, goes_before, IsGreatestOf, LooksFromGreatest}

abbrev pub has : Text → List Text → Bool
has v xs = list_any (bytes_eq v) xs

-- texts that the test finds equal are equal, and each is equal to itself
pub same : (x y : Text) → bytes_eq x y ≡ true → x ≡ y
same x y = (bytes_eq-Decides x y).0

pub itself : (x : Text) → bytes_eq x x ≡ true
itself x = (bytes_eq-Decides x x).1 refl

contains_from : (v : Text) (xs : List Text) → has v xs ≡ true → Contains xs v
contains_from v xs h =
    let (k, x, lt, at, q) = Any-from_list_any (bytes_eq v) xs h in
    let e : x ≡ v = sym (same v x q) in
    (k, lt, subst (λ y. get_or xs k y ≡ y) e at)

has_from : (v : Text) (xs : List Text) → Contains xs v → has v xs ≡ true
has_from v xs (k, lt, at) = list_any-from_Any (bytes_eq v) xs (k, v, lt, at, itself v)

pub has_permutation : (v : Text) (xs ys : List Text) → IsPermutation xs ys → has v xs ≡ true → has v ys ≡ true
has_permutation v xs ys p h = has_from v ys (Contains-permutation xs ys v p (contains_from v xs h))

kept_step : (t : Bool) (p : Text → Bool) (v x : Text) (ys xs : List Text) → p x ≡ t → has v (if t then x ∷ ys else ys) ≡ true
    → (has v ys ≡ true → (has v xs ≡ true) × (p v ≡ true)) → (has v (x ∷ xs) ≡ true) × (p v ≡ true)
kept_step true p v x ys xs e h more =
    ⊎_elim (λ q. (or_left (bytes_eq v x) (has v xs) q, ap p ((bytes_eq-Decides v x).0 q) ∙ e))
    (λ r. let m = more r in (or_right (bytes_eq v x) (has v xs) m.0, m.1)) (or_cases (bytes_eq v x) (has v ys) h)
kept_step false p v x ys xs e h more = let m = more h in (or_right (bytes_eq v x) (has v xs) m.0, m.1)

pub in_filter : (p : Text → Bool) (v : Text) (xs : List Text) → has v (filter p xs) ≡ true → (has v xs ≡ true) × (p v ≡ true)
in_filter p v [] h = absurd (cc)
in_filter p v (x ∷ xs) h = kept_step (p x) p v x (filter p xs) xs refl h (in_filter p v xs)

found_step : (t : Bool) (p : Text → Bool) (v x : Text) (ys xs : List Text) → p x ≡ t → has v (x ∷ xs) ≡ true → p v ≡ true
    → (has v xs ≡ true → has v ys ≡ true) → has v (if t then x ∷ ys else ys) ≡ true
found_step true p v x ys xs e h k more =
    ⊎_elim (λ q. or_left (bytes_eq v x) (has v ys) q) (λ r. or_right (bytes_eq v x) (has v ys) (more r)) (or_cases (bytes_eq v x) (has v xs) h)
found_step false p v x ys xs e h k more =
    ⊎_elim (λ q. absurd (let f : true ≡ false = sym k ∙ ap p ((bytes_eq-Decides v x).0 q) ∙ e in cc)) more (or_cases (bytes_eq v x) (has v xs) h)

pub filter_has : (p : Text → Bool) (v : Text) (xs : List Text) → has v xs ≡ true → p v ≡ true → has v (filter p xs) ≡ true
filter_has p v [] h k = absurd (cc)
filter_has p v (x ∷ xs) h k = found_step (p x) p v x (filter p xs) xs refl h k (λ r. filter_has p v xs r k)

-- the order from the greatest down
pub down_order : {X : Type 0} (view : X → Text) → IsStrictWeakOrder (λ (v : X) (w : X). goes_before (view v) (view w))
down_order {X = X} view = IsStrictWeakOrder-flip (λ (v : X) (w : X). is_lt (version_order (view v) (view w))) (ranks_by total view)

abbrev Down : {X : Type 0} → (X → Text) → List X → Type 0
Down view [] = Unit {0}
Down view (x ∷ xs) = AllByRecursion (λ y. goes_before (view y) (view x) ≡ false) xs × Down view xs

abbrev Far : {X : Type 0} → (X → Text) → List X → Type 0
Far {X} view xs = (i j : ℕ) (d : X) → i ≤ j → j < length xs → goes_before (view (get_or xs j d)) (view (get_or xs i d)) ≡ false

down_from : {X : Type 0} (view : X → Text) (xs : List X) → Far view xs → Down view xs
down_from view [] f = tt
down_from view (x ∷ xs) f = (
  recursion_from_All (λ y. goes_before (view y) (view x) ≡ false) xs (λ k d lt. f 0 (suc k) d (omega arith) (omega arith)),
  down_from view xs (λ i j d le lt. f (suc i) (suc j) d (omega arith) (omega arith)),
)

not_before : (o : Ordering) → is_lt o ≡ false → is_le (ordering_reverse o) ≡ true
not_before Less h = absurd (cc)
not_before Equal h = refl
not_before Greater h = refl

later_is_le : (x w : Text) → goes_before w x ≡ false → is_le (version_order w x) ≡ true
later_is_le x w h = ap is_le (total.antisymm w x) ∙ not_before (version_order x w) h

le_itself : (v : Text) → is_le (version_order v v) ≡ true
le_itself v = ap is_le (tied_itself total v)

after_first : {X : Type 0} (view : X → Text) (w x : Text) (xs : List X) → AllByRecursion (λ y. goes_before (view y) x ≡ false) xs → has w (map view xs) ≡ true → goes_before w x ≡ false
after_first view w x [] a h = absurd (cc)
after_first view w x (y ∷ ys) a h =
    ⊎_elim (λ q. ap (λ z. goes_before z x) (same w (view y) q) ∙ a.0) (λ q. after_first view w x ys a.1 q) (or_cases (bytes_eq w (view y)) (has w (map view ys)) h)

-- the first that passes a test, of texts from the greatest down
abbrev IsFirstDown : (Text → Bool) → List Text → Option Text → Type 0
IsFirstDown p xs None = (w : Text) → has w xs ≡ true → p w ≡ false
IsFirstDown p xs (Some v) = (has v xs ≡ true) × (p v ≡ true) × ((w : Text) → has w xs ≡ true → p w ≡ true → is_le (version_order w v) ≡ true)

passed_over : (p : Text → Bool) (x : Text) (xs : List Text) (o : Option Text) → p x ≡ false → IsFirstDown p xs o → IsFirstDown p (x ∷ xs) o
passed_over p x xs None e f = λ w h. ⊎_elim (λ q. ap p (same w x q) ∙ e) (λ q. f w q) (or_cases (bytes_eq w x) (has w xs) h)
passed_over p x xs (Some v) e f = (
  or_right (bytes_eq v x) (has v xs) f.0,
  f.1,
  λ w h k. ⊎_elim (λ q. absurd (let g : true ≡ false = sym k ∙ ap p (same w x q) ∙ e in cc)) (λ q. f.2 w q k) (or_cases (bytes_eq w x) (has w xs) h),
)

first_down_step : {X : Type 0} (view : X → Text) (p : Text → Bool) (x : X) (xs : List X) (t : Bool) → p (view x) ≡ t → Down view (x ∷ xs) → IsFirstDown p (map view xs) (find p (map view xs))
    → IsFirstDown p (view x ∷ map view xs) (cond t (Some (view x)) (find p (map view xs)))
first_down_step view p x xs true e d rest = (
  or_left (bytes_eq (view x) (view x)) (has (view x) (map view xs)) (itself (view x)),
  e,
  λ w h k. ⊎_elim (λ q. subst (λ z. is_le (version_order z (view x)) ≡ true) (sym (same w (view x) q)) (le_itself (view x)))
      (λ q. later_is_le (view x) w (after_first view w (view x) xs d.0 q)) (or_cases (bytes_eq w (view x)) (has w (map view xs)) h),
)
first_down_step view p x xs false e d rest = passed_over p (view x) (map view xs) (find p (map view xs)) e rest

first_down : {X : Type 0} (view : X → Text) (p : Text → Bool) (xs : List X) → Down view xs → IsFirstDown p (map view xs) (find p (map view xs))
first_down view p [] d = λ w h. absurd (cc)
first_down view p (x ∷ xs) d = first_down_step view p x xs (p (view x)) refl d (first_down view p xs d.1)

-- the first of the elements from one on, and those after it
pub first_of : {X : Type 0} (view : X → Text) (d : X) (xs : List X) (i : ℕ) → i < length xs → map view (drop i xs) ≡ view (get_or xs i d) ∷ map view (drop (i + 1) xs)
first_of view d xs i within = ap (map view) (drop_more xs i d within)

-- a first that doesn't pass the test is passed over
pub find_later : (p : Text → Bool) (first : Text) (after rest : List Text) → rest ≡ first ∷ after → p first ≡ false → find p rest ≡ find p after
find_later p first after rest split e = ap (find p) split ∙ ap (λ t. cond t (Some first) (find p after)) e

-- of versions from the greatest down, where the first that is a module is looked for
module _ {X : Type 0} (view : X → Text) (files : Files) (dir name : Text) where
  looked_down : (xs : List X) (at : Text) → Down view xs → LooksFromGreatest files dir name (map view xs) at
      → (v : Text) × (has v (map view xs) ≡ true) × ((w : Text) → has w (map view xs) ≡ true → is_module_in files dir name w ≡ true → is_le (version_order w v) ≡ true)
      × (at ≡ path_of dir (path_of name v))
  looked_down [] at d h = absurd h
  looked_down (x ∷ xs) at d (inl e) = (
    view x,
    or_left (bytes_eq (view x) (view x)) (has (view x) (map view xs)) (itself (view x)),
    λ w h k. ⊎_elim (λ q. subst (λ z. is_le (version_order z (view x)) ≡ true) (sym (same w (view x) q)) (le_itself (view x)))
        (λ q. later_is_le (view x) w (after_first view w (view x) xs d.0 q)) (or_cases (bytes_eq w (view x)) (has w (map view xs)) h),
    e,
  )
  looked_down (x ∷ xs) at d (inr (passed, h)) =
      let (v, there, last, e) = looked_down xs at d.1 h in (
        v,
        or_right (bytes_eq v (view x)) (has v (map view xs)) there,
        λ w m k. ⊎_elim (λ q. absurd (let g : true ≡ false = sym k ∙ ap (is_module_in files dir name) (same w (view x) q) ∙ passed in cc)) (λ q. last w q k)
            (or_cases (bytes_eq w (view x)) (has w (map view xs)) m),
        e,
      )

-- the paths of the first version and of those after it
module _ (files : Files) (dir name first : Text) (after rest : List Text) (split : rest ≡ first ∷ after) (at : Text) where
  pub looks_first : at ≡ path_of dir (path_of name first) → LooksFromGreatest files dir name rest at
  looks_first e = subst (λ vs. LooksFromGreatest files dir name vs at) (sym split) (inl e)

  pub looks_later : is_module_in files dir name first ≡ false → LooksFromGreatest files dir name after at → LooksFromGreatest files dir name rest at
  looks_later e h = subst (λ vs. LooksFromGreatest files dir name vs at) (sym split) (inr (e, h))

pub same_entries : (entries others : List Text) (o : Option (List Text)) → o ≡ Some entries → o ≡ Some others → others ≡ entries
same_entries entries others o e f = cc

-- what a candidate is, of the entries of the folder
module _ (files : Files) (listings : Listings) (dir name : Text) (entries : List Text) (listed : listings (path_of dir name) ≡ Some entries) where
  pub candidate_from : (v : Text) → has v entries ≡ true → is_version name v ≡ true → is_module_in files dir name v ≡ true → IsCandidate files listings dir name v
  candidate_from v h k m =
      let p = and_parts (is_single v) (is_module_name (path_of name v)) k in
      record { entry = (entries, listed, h); single = p.0; spelled = p.1; file = m }

  is_version_of : (v : Text) → IsCandidate files listings dir name v → is_version name v ≡ true
  is_version_of v c = and_from (is_single v) (is_module_name (path_of name v)) c.single c.spelled

  is_entry_of : (v : Text) → IsCandidate files listings dir name v → has v entries ≡ true
  is_entry_of v c = ap (has v) (sym (same_entries entries c.entry.0 (listings (path_of dir name)) listed c.entry.1)) ∙ c.entry.2

  pub version_from : (v : Text) → has v entries ≡ true → is_version name v ≡ true → IsVersionIn listings dir name v
  version_from v h k =
      let p = and_parts (is_single v) (is_module_name (path_of name v)) k in record { entry = (entries, listed, h); single = p.0; spelled = p.1 }

  -- an entry can be a version
  pub some_version : list_any (is_version name) entries ≡ true → (v : Text) × IsVersionIn listings dir name v
  some_version h = let (k, v, lt, at, q) = Any-from_list_any (is_version name) entries h in (v, version_from v (has_from_place v k lt at) q)
    where
      has_from_place : (v : Text) (k : ℕ) → k < length entries → get_or entries k v ≡ v → has v entries ≡ true
      has_from_place v k lt at = has_from v entries (k, lt, at)

  -- no entry can be a version
  pub no_candidates : list_any (is_version name) entries ≡ false → IsGreatestOf files listings dir name None
  no_candidates none (v, c) =
      let (k, lt, at) = contains_from v entries (is_entry_of v c) in
      let some : list_any (is_version name) entries ≡ true = list_any-from_Any (is_version name) entries (k, v, lt, at, is_version_of v c) in
      let clash : true ≡ false = sym some ∙ none in absurd (cc)

  greatest_from : (xs : List Text) → ((v : Text) → has v xs ≡ true → has v (filter (is_version name) entries) ≡ true) → ((v : Text) → has v (filter (is_version name) entries) ≡ true → has v xs ≡ true)
      → (o : Option Text) → IsFirstDown (is_module_in files dir name) xs o → IsGreatestOf files listings dir name o
  greatest_from xs into from None f = λ (v, c).
      let here : has v xs ≡ true = from v (filter_has (is_version name) v entries (is_entry_of v c) (is_version_of v c)) in
      let g : true ≡ false = sym c.file ∙ f v here in absurd (cc)
  greatest_from xs into from (Some v) f =
      let p = in_filter (is_version name) v entries (into v f.0) in record {
        member = candidate_from v p.0 p.1 f.1;
        last = λ w c. f.2 w (from w (filter_has (is_version name) w entries (is_entry_of w c) (is_version_of w c))) c.file;
      }

  pub greatest_is : {X : Type 0} (view : X → Text) (versions sorted : List X) → map view versions ≡ filter (is_version name) entries → IsPermutation versions sorted
      → IsSortedBy (λ v w. goes_before (view v) (view w)) sorted → (o : Option Text) → o ≡ find (is_module_in files dir name) (map view sorted) → IsGreatestOf files listings dir name o
  greatest_is view versions sorted made moved up o found =
      let there = IsPermutation-map view versions sorted moved in
      let back = IsPermutation-sym (map view versions) (map view sorted) there in
      let far : Far view sorted = sorted_far (λ v w. goes_before (view v) (view w)) (down_order view) sorted up in
      greatest_from (map view sorted)
      (λ v h. ap (has v) (sym made) ∙ has_permutation v (map view sorted) (map view versions) back h)
      (λ v h. has_permutation v (map view versions) (map view sorted) there (ap (has v) made ∙ h))
      o (subst (IsFirstDown (is_module_in files dir name) (map view sorted)) (sym found) (first_down view (is_module_in files dir name) sorted (down_from view sorted far)))

  pub greatest_looked : {X : Type 0} (view : X → Text) (versions sorted : List X) → map view versions ≡ filter (is_version name) entries → IsPermutation versions sorted
      → IsSortedBy (λ v w. goes_before (view v) (view w)) sorted → (at : Text) → LooksFromGreatest files dir name (map view sorted) at → LooksForGreatest files listings dir name at
  greatest_looked view versions sorted made moved up at h =
      let there = IsPermutation-map view versions sorted moved in
      let back = IsPermutation-sym (map view versions) (map view sorted) there in
      let far : Far view sorted = sorted_far (λ v w. goes_before (view v) (view w)) (down_order view) sorted up in
      let (v, here, last, e) = looked_down view files dir name sorted at (down_from view sorted far) h in
      let p = in_filter (is_version name) v entries (ap (has v) (sym made) ∙ has_permutation v (map view sorted) (map view versions) back here) in (
        v,
        (version_from v p.0 p.1, e),
        λ w c. last w (has_permutation w (map view versions) (map view sorted) there (ap (has w) made ∙ filter_has (is_version name) w entries (is_entry_of w c) (is_version_of w c))) c.file,
      )
