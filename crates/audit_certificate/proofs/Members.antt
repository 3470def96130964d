-- Lists of users, and those with one member more.
use Rattle.std.proofs.Common.{◌≡◌, inl, inr, ℕ, ◌<◌, zero, suc, Bool, true, false, cond, ◌||◌, map, List, [], ◌∷◌, ◌++◌}
use Rattle.std.proofs.Common.{length, get_or, refl, sym, ap, ◌∙◌, subst, arith, Result, Ok, Err}
use Rattle.std.specs.Prelude.{is_ok, OnOk}
use Rattle.std.proofs.Math.ListN.{set}
use Rattle.std.specs.List.{list_any, flat_map}
use Rattle.std.proofs.lemmas.List.{map-append}
use Rattle.std.proofs.lemmas.List.Folds.{list_any-append}
use Rattle.envvars.proofs.TextLemmas.{or_left, or_right}
use Rattle.audit_certificate.specs.RecordUses.{IsAmong}
use Rattle.audit_certificate.proofs.UsedLemmas.{by_cases, among_left, among_right, among_either}
use Rattle.audit_certificate.specs.Users.{ModuleUse, HasOneMore}

-- a member of one of several lists
pub among_flat : {X Y : Type 0} (f : X → List Y) (xs : List X) (i : ℕ) (d : X) (y : Y) → i < length xs → IsAmong y (f (get_or xs i d)) → IsAmong y (flat_map f xs)
among_flat f [] i d y l h = absurd (omega arith)
among_flat f (x ∷ xs) zero d y l h = among_left y (f x) (flat_map f xs) h
among_flat f (x ∷ xs) (suc i) d y l h = among_right y (f x) (flat_map f xs) (among_flat f xs i d y (omega arith) h)

-- one more member in the first or the second of two lists
one_left : (xs zs ys : List ModuleUse) (u : ModuleUse) → HasOneMore xs zs u → HasOneMore (xs ++ ys) (zs ++ ys) u
one_left xs zs ys u m = record {
  kept = λ y h. by_cases (among_either y xs ys h) (λ a. among_left y zs ys (m.kept y a)) (λ b. among_right y zs ys b);
  added = among_left u zs ys m.added;
  only = λ y h. by_cases (among_either y zs ys h) (λ a. by_cases (m.only y a) (λ k. inl (among_left y xs ys k)) (λ e. inr e)) (λ b. inl (among_right y xs ys b));
}

one_right : (ys xs zs : List ModuleUse) (u : ModuleUse) → HasOneMore xs zs u → HasOneMore (ys ++ xs) (ys ++ zs) u
one_right ys xs zs u m = record {
  kept = λ y h. by_cases (among_either y ys xs h) (λ a. among_left y ys zs a) (λ b. among_right y ys zs (m.kept y b));
  added = among_right u ys zs m.added;
  only = λ y h. by_cases (among_either y ys zs h) (λ a. inl (among_left y ys xs a)) (λ b. by_cases (m.only y b) (λ k. inl (among_right y ys xs k)) (λ e. inr e));
}

-- the last member
pub one_pushed : (xs : List ModuleUse) (u : ModuleUse) → HasOneMore xs (xs ++ u ∷ []) u
one_pushed xs u = record {
  kept = λ y h. among_left y xs (u ∷ []) h;
  added = among_right u xs (u ∷ []) (inl refl);
  only = λ y h. by_cases (among_either y xs (u ∷ []) h) (λ a. inl a) (λ b. by_cases b (λ e. inr e) (λ n. absurd n));
}

-- one more in one of several lists
pub one_in_place : {X : Type 0} (f : X → List ModuleUse) (xs : List X) (i : ℕ) (d z : X) (u : ModuleUse) → i < length xs
    → HasOneMore (f (get_or xs i d)) (f z) u → HasOneMore (flat_map f xs) (flat_map f (set xs i z)) u
one_in_place f [] i d z u l m = absurd (omega arith)
one_in_place f (x ∷ xs) zero d z u l m = one_left (f x) (f z) (flat_map f xs) u m
one_in_place f (x ∷ xs) (suc i) d z u l m = one_right (f x) (flat_map f xs) (flat_map f (set xs i z)) u (one_in_place f xs i d z u (omega arith) m)

-- one more list, of one
pub one_list : {X : Type 0} (f : X → List ModuleUse) (xs : List X) (z : X) (u : ModuleUse) → HasOneMore [] (f z) u
    → HasOneMore (flat_map f xs) (flat_map f (xs ++ z ∷ [])) u
one_list f [] z u m = one_left [] (f z) [] u m
one_list f (x ∷ xs) z u m = one_right (f x) (flat_map f xs) (flat_map f (xs ++ z ∷ [])) u (one_list f xs z u m)

-- a fact of the members that the new one has too
pub one_has : (P : ModuleUse → Type 0) (xs ys : List ModuleUse) (u : ModuleUse) → HasOneMore xs ys u → ((y : ModuleUse) → IsAmong y xs → P y) → P u → (y : ModuleUse) → IsAmong y ys → P y
one_has P xs ys u m h k y a = by_cases (m.only y a) (λ b. h y b) (λ e. subst P (sym e) k)

-- Facts of all members of some lists, where one list is added or changed.
pub kept_by_push : {X : Type 0} (view : X → ModuleUse) (P : ModuleUse → Type 0) (xs ys : List X) (u : X) (b : Bool) → ys ≡ cond b (xs ++ u ∷ []) xs
    → ((y : ModuleUse) → IsAmong y (map view xs) → P y) → P (view u) → (y : ModuleUse) → IsAmong y (map view ys) → P y
kept_by_push view P xs ys u false e h k y a = h y (subst (λ zs. IsAmong y (map view zs)) e a)
kept_by_push view P xs ys u true e h k y a =
    let m : HasOneMore (map view xs) (map view ys) (view u) = subst (λ zs. HasOneMore (map view xs) zs (view u))
    (sym (ap (map view) e ∙ map-append view xs (u ∷ []))) (one_pushed (map view xs) (view u)) in
    one_has P (map view xs) (map view ys) (view u) m h k y a

kept_with_last : {X : Type 0} (f : X → List ModuleUse) (P : ModuleUse → Type 0) (xs : List X) (z : X)
    → ((y : ModuleUse) → IsAmong y (flat_map f xs) → P y) → ((y : ModuleUse) → IsAmong y (f z) → P y) → (y : ModuleUse) → IsAmong y (flat_map f (xs ++ z ∷ [])) → P y
kept_with_last f P [] z h k y a = by_cases (among_either y (f z) [] a) (k y) (λ n. absurd n)
kept_with_last f P (x ∷ xs) z h k y a =
    by_cases (among_either y (f x) (flat_map f (xs ++ z ∷ [])) a) (λ b. h y (among_left y (f x) (flat_map f xs) b))
    (λ b. kept_with_last f P xs z (λ w c. h w (among_right w (f x) (flat_map f xs) c)) k y b)

pub kept_by_list : {X : Type 0} (f : X → List ModuleUse) (P : ModuleUse → Type 0) (xs ys : List X) (z : X) (u : ModuleUse) (b : Bool) → ys ≡ cond b (xs ++ z ∷ []) xs → f z ≡ u ∷ []
    → ((y : ModuleUse) → IsAmong y (flat_map f xs) → P y) → P u → (y : ModuleUse) → IsAmong y (flat_map f ys) → P y
kept_by_list f P xs ys z u false e one h k y a = h y (subst (λ zs. IsAmong y (flat_map f zs)) e a)
kept_by_list f P xs ys z u true e one h k y a =
    kept_with_last f P xs z h (λ w c. by_cases (subst (λ zs. IsAmong w zs) one c) (λ i. subst P (sym i) k) (λ n. absurd n)) y (subst (λ zs. IsAmong y (flat_map f zs)) e a)

pub kept_in_place : {X : Type 0} (f : X → List ModuleUse) (P : ModuleUse → Type 0) (xs : List X) (i : ℕ) (d z : X) (u : ModuleUse) (b : Bool) → i < length xs
    → f z ≡ cond b (f (get_or xs i d) ++ u ∷ []) (f (get_or xs i d)) → ((y : ModuleUse) → IsAmong y (flat_map f xs) → P y) → P u → (y : ModuleUse) → IsAmong y (flat_map f (set xs i z)) → P y
kept_in_place f P [] i d z u b l e h k y a = absurd (omega arith)
kept_in_place f P (x ∷ xs) zero d z u b l e h k y a =
    by_cases (among_either y (f z) (flat_map f xs) a) (λ c. one_of_both b (subst (λ zs. IsAmong y zs) e c)) (λ c. h y (among_right y (f x) (flat_map f xs) c))
  where
    one_of_both : (t : Bool) → IsAmong y (cond t (f x ++ u ∷ []) (f x)) → P y
    one_of_both true c = one_has P (f x) (f x ++ u ∷ []) u (one_pushed (f x) u) (λ w n. h w (among_left w (f x) (flat_map f xs) n)) k y c
    one_of_both false c = h y (among_left y (f x) (flat_map f xs) c)
kept_in_place f P (x ∷ xs) (suc i) d z u b l e h k y a =
    by_cases (among_either y (f x) (flat_map f (set xs i z)) a) (λ c. h y (among_left y (f x) (flat_map f xs) c))
    (λ c. kept_in_place f P xs i d z u b (omega arith) e (λ w n. h w (among_right w (f x) (flat_map f xs) n)) k y c)

-- tests of members
pub none_passes : {Y : Type 0} (p : Y → Bool) (ys : List Y) → ((y : Y) → IsAmong y ys → p y ≡ false) → list_any p ys ≡ false
none_passes p [] h = refl
none_passes p (y ∷ ys) h = rw (h y (inl refl)) (none_passes p ys (λ z k. h z (inr k)))

pub fails_each : {Y : Type 0} (p : Y → Bool) (ys : List Y) (y : Y) → list_any p ys ≡ false → IsAmong y ys → p y ≡ false
fails_each p [] y h a = absurd a
fails_each p (z ∷ ys) y h (inl e) = ap p e ∙ or_left (p z) (list_any p ys) h
fails_each p (z ∷ ys) y h (inr a) = fails_each p ys y (or_right (p z) (list_any p ys) h) a

pub any_flat : {X Y : Type 0} (p : Y → Bool) (f : X → List Y) (xs : List X) → list_any p (flat_map f xs) ≡ list_any (λ x. list_any p (f x)) xs
any_flat p f [] = refl
any_flat p f (x ∷ xs) = list_any-append p (f x) (flat_map f xs) ∙ ap (λ b. list_any p (f x) || b) (any_flat p f xs)

-- A call pushed a user or not, into a list in its place.
pub pushed_in_place : {X E : Type 0} (r : Result (Unit {0}) E) (f : X → List ModuleUse) (xs : List X) (i : ℕ) (x z : X) (u : ModuleUse) → i < length xs → x ≡ get_or xs i x
    → f z ≡ cond (is_ok r) (f x ++ u ∷ []) (f x) → OnOk r (HasOneMore (flat_map f xs) (flat_map f (set xs i z)) u)
pushed_in_place (Ok v) f xs i x z u l is e =
    one_in_place f xs i x z u l (subst (λ k. HasOneMore (f k) (f z) u) is (subst (λ k. HasOneMore (f x) k u) (sym e) (one_pushed (f x) u)))
pushed_in_place (Err v) f xs i x z u l is e = tt

pub changed_in_place : {X E : Type 0} (r : Result (Unit {0}) E) (f : X → List ModuleUse) (xs : List X) (i : ℕ) (x z : X) (u : ModuleUse) → i < length xs → x ≡ get_or xs i x
    → OnOk r (HasOneMore (f x) (f z) u) → OnOk r (HasOneMore (flat_map f xs) (flat_map f (set xs i z)) u)
changed_in_place (Ok v) f xs i x z u l is m = one_in_place f xs i x z u l (subst (λ k. HasOneMore (f k) (f z) u) is m)
changed_in_place (Err v) f xs i x z u l is m = tt

pub kept_in_pushed : {X : Type 0} (f : X → List ModuleUse) (P : ModuleUse → Type 0) (xs : List X) (i : ℕ) (x z : X) (u : ModuleUse) (b : Bool) → i < length xs → x ≡ get_or xs i x
    → f z ≡ cond b (f x ++ u ∷ []) (f x) → ((y : ModuleUse) → IsAmong y (flat_map f xs) → P y) → P u → (y : ModuleUse) → IsAmong y (flat_map f (set xs i z)) → P y
kept_in_pushed f P xs i x z u b l is e h k = kept_in_place f P xs i x z u b l (subst (λ w. f z ≡ cond b (f w ++ u ∷ []) (f w)) is e) h k

pub one_of_list : {X : Type 0} (f : X → List ModuleUse) (xs ys : List X) (z : X) (u : ModuleUse) → ys ≡ xs ++ z ∷ [] → HasOneMore [] (f z) u → HasOneMore (flat_map f xs) (flat_map f ys) u
one_of_list f xs ys z u e m = subst (λ k. HasOneMore (flat_map f xs) (flat_map f k) u) (sym e) (one_list f xs z u m)

pub just_one : (ys : List ModuleUse) (u : ModuleUse) → ys ≡ u ∷ [] → HasOneMore [] ys u
just_one ys u e = subst (λ k. HasOneMore [] k u) (sym e) (one_pushed [] u)

-- a member of the list at hand
pub among_all : {X : Type 0} (f : X → List ModuleUse) (xs all : List X) (i : ℕ) (x : X) (y : ModuleUse) → xs ≡ all → i < length xs → x ≡ get_or xs i x → IsAmong y (f x) → IsAmong y (flat_map f all)
among_all f xs all i x y e l is h = subst (λ k. IsAmong y (flat_map f k)) e (among_flat f xs i x y l (subst (λ w. IsAmong y (f w)) is h))
