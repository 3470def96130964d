-- A list of names in strict order is known by its members, and so is a difference of two environments.
use Rattle.std.proofs.Common.{◌≡◌, ◌↔◌, Bool, true, false, ◌||◌, List, [], ◌∷◌, map, Option, Some, None, refl, sym, ap, ◌∙◌}
use Rattle.std.proofs.Common.{subst, ⊎_elim, Less, Equal, is_some, if◌then◌else◌}
use Rattle.std.specs.Prelude.{bytes_eq}
use Rattle.std.specs.Ordering.{nat_cmp}
use Rattle.std.specs.Cmp.Lexicographic.{slice_cmp, nat_list_cmp_total}
use Rattle.std.specs.List.{AllByRecursion}
use Rattle.std.specs.List.Sorted.{IsStrictlySortedBy}
use Rattle.std.proofs.lemmas.Bool.{or_cases, or_left, or_right}
use Rattle.std.proofs.lemmas.Cmp.{tied_itself}
use Rattle.envvars.specs.Texts.{Text, has}
use Rattle.envvars.specs.Environment.{Environment, lookup}
use Rattle.envvars.specs.Changes.{NewValue, AreChanges, difference, new_value_at}
use Rattle.envvars.proofs.ChangeLemmas.{same_as_itself}
use Rattle.envvars.proofs.TextLemmas.{bytes_eq-same, same_text}

abbrev Sorted : List Text → Type 0
Sorted xs = IsStrictlySortedBy (slice_cmp nat_cmp) xs

abbrev Same : List Text → List Text → Type 0
Same xs ys = (v : Text) → (has v xs ≡ true) ↔ (has v ys ≡ true)

below : (P : Text → Type 0) (v : Text) (xs : List Text) → AllByRecursion P xs → has v xs ≡ true → P v
below P v [] a h = absurd (cc)
below P v (x ∷ xs) a h =
    ⊎_elim (λ e. subst P (sym (same_text v x e)) a.0) (λ e. below P v xs a.1 e) (or_cases (bytes_eq v x) (has v xs) h)

not_below_itself : (x : Text) → slice_cmp nat_cmp x x ≡ Less → ⊥
not_below_itself x h = let e : slice_cmp nat_cmp x x ≡ Equal = tied_itself nat_list_cmp_total x in absurd (cc)

not_both : (x y : Text) → slice_cmp nat_cmp x y ≡ Less → slice_cmp nat_cmp y x ≡ Less → ⊥
not_both x y h k = not_below_itself x (nat_list_cmp_total.trans x y x h k)

first_same : (x y : Text) (xs ys : List Text) → Sorted (x ∷ xs) → Sorted (y ∷ ys) → Same (x ∷ xs) (y ∷ ys) → x ≡ y
unfolding IsStrictlySortedBy
first_same x y xs ys s t m =
    ⊎_elim (λ e. same_text x y e)
    (λ e. ⊎_elim (λ g. sym (same_text y x g))
    (λ g. absurd (not_both x y (below (λ v. slice_cmp nat_cmp x v ≡ Less) y xs s.0 g) (below (λ v. slice_cmp nat_cmp y v ≡ Less) x ys t.0 e)))
    (or_cases (bytes_eq y x) (has y xs) ((m y).1 (or_left (bytes_eq y y) (has y ys) (bytes_eq-same y)))))
    (or_cases (bytes_eq x y) (has x ys) ((m x).0 (or_left (bytes_eq x x) (has x xs) (bytes_eq-same x))))

-- what is in the rest isn't the first
rest_in : (x : Text) (xs ys : List Text) → Sorted (x ∷ xs) → ((v : Text) → has v (x ∷ xs) ≡ true → has v (x ∷ ys) ≡ true) → (v : Text) → has v xs ≡ true → has v ys ≡ true
unfolding IsStrictlySortedBy
rest_in x xs ys s m v h =
    ⊎_elim (λ e. absurd (not_below_itself x (subst (λ w. slice_cmp nat_cmp x w ≡ Less) (same_text v x e) (below (λ w. slice_cmp nat_cmp x w ≡ Less) v xs s.0 h))))
    (λ e. e) (or_cases (bytes_eq v x) (has v ys) (m v (or_right (bytes_eq v x) (has v xs) h)))

pub one_names : (xs ys : List Text) → Sorted xs → Sorted ys → Same xs ys → xs ≡ ys
unfolding IsStrictlySortedBy
one_names [] [] s t m = refl
one_names [] (y ∷ ys) s t m = absurd (let e = (m y).1 (or_left (bytes_eq y y) (has y ys) (bytes_eq-same y)) in cc)
one_names (x ∷ xs) [] s t m = absurd (let e = (m x).0 (or_left (bytes_eq x x) (has x xs) (bytes_eq-same x)) in cc)
one_names (x ∷ xs) (y ∷ ys) s t m =
    let e : x ≡ y = first_same x y xs ys s t m in
    let t' : Sorted (x ∷ ys) = subst (λ z. Sorted (z ∷ ys)) (sym e) t in
    let m' : Same (x ∷ xs) (x ∷ ys) = subst (λ z. Same (x ∷ xs) (z ∷ ys)) (sym e) m in
    let r : xs ≡ ys = one_names xs ys s.1 t'.1 (λ v. (rest_in x xs ys s (λ w. (m' w).0) v, rest_in x ys xs t' (λ w. (m' w).1) v)) in
    cc

-- ---- the names of a difference

abbrev pub names_in : List NewValue → List Text
names_in cs = map (λ (c : NewValue). c.0) cs

named_if : (b : Bool) (v : Option Text) (o : Option (Option Text)) (h : Bool) → is_some o ≡ h
    → is_some (if b then Some v else o) ≡ (b || h)
named_if true v o h e = refl
named_if false v o h e = e

-- a name is among the changes where one gives it a value
named : (cs : List NewValue) (q : Text) → is_some (new_value_at cs q) ≡ has q (names_in cs)
named [] q = refl
named (c ∷ cs) q = named_if (bytes_eq q c.0) c.1 (new_value_at cs q) (has q (names_in cs)) (named cs q)

-- the two differences of the same environments name the same
pub one_difference : (old new : Environment) (cs ds : List NewValue) → AreChanges old new cs → AreChanges old new ds
    → names_in cs ≡ names_in ds
one_difference old new cs ds h k =
    one_names (names_in cs) (names_in ds) h.ordered k.ordered (λ v.
    let same : has v (names_in cs) ≡ has v (names_in ds) =
    sym (named cs v) ∙ (ap (λ o. is_some o) (h.each v ∙ sym (k.each v)) ∙ named ds v) in
    ((λ e. sym same ∙ e), (λ e. same ∙ e)))

no_difference : (o : Option Text) → difference o o ≡ None
no_difference o = ap (λ (b : Bool). if b then None else Some o) (same_as_itself o)

first_named : (c : NewValue) (cs : List NewValue) → new_value_at (c ∷ cs) c.0 ≡ Some c.1
first_named c cs = ap (λ (b : Bool). if b then Some c.1 else new_value_at cs c.0) (bytes_eq-same c.0)

-- an environment has no difference to itself
pub no_changes : (e : Environment) (cs : List NewValue) → AreChanges e e cs → cs ≡ []
no_changes e [] h = refl
no_changes e (c ∷ cs) h =
    let k : Some c.1 ≡ None = sym (first_named c cs) ∙ (h.each c.0 ∙ no_difference (lookup e c.0)) in
    absurd (cc)
