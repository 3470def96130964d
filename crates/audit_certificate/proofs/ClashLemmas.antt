-- A user and others of its variable: what is found among them, and whom it need not look at.
use Rattle.std.proofs.Common.{arith, rules, tests, suc, ◌≡◌, ℕ, ◌+◌, ◌<◌, ◌≤◌, Bool, true, false, cond, not, ◌&&◌, ◌||◌}
use Rattle.std.proofs.Common.{List, [], ◌∷◌, find, take, length, get_or, refl, sym, ap, ◌∙◌, subst, Option, Some, None}
use Rattle.std.proofs.Common.{inl, inr}
use Rattle.std.specs.Prelude.{bytes_eq, nat_eq, IfSome}
use Rattle.std.specs.Option.{option_map}
use Rattle.std.specs.List.{list_any, position_or_len, flat_map}
use Rattle.std.proofs.lemmas.List.Folds.{list_any_more}
use Rattle.std.proofs.lemmas.List.{take_all}
use Rattle.std.proofs.lemmas.Bool.{false≢true}
use Rattle.modulename.specs.ModuleName.{means, slash}
use Rattle.envvars.specs.Texts.{Text, has}
use Rattle.envvars.proofs.TextLemmas.{same_text}
use Rattle.modulefile.specs.Records.{conflict_names}
use Rattle.reversal.specs.VariableUses.{VariableUse, Untouched, Fixed, Absent, Pathed, Stacked}
use Rattle.audit_certificate.specs.RecordUses.{IsAmong, is_read}
use Rattle.audit_certificate.specs.Candidates.{Candidate, as_module}
use Rattle.audit_certificate.specs.Clashes.{is_other, names_in_conflict, excludes_by, are_mutually_exclusive, are_compatible, agree_at_start, uses_clash}
use Rattle.audit_certificate.specs.Users.{ModuleUse, first_part, do_users_clash, IsClashAmong}
use Rattle.audit_certificate.proofs.Members.{among_all, none_passes, any_flat}
use Rattle.audit_certificate.proofs.Exact.{use_itself}
use Rattle.audit_certificate.proofs.Staying.{go_equal}

-- what is found first
later_clash : (x y : ModuleUse) (ys : List ModuleUse) (r : Option ModuleUse) → do_users_clash x y ≡ false → IsClashAmong x ys r → IsClashAmong x (y ∷ ys) r
later_clash x y ys None e h = rw e h
later_clash x y ys (Some z) e h = (inr h.0, h.1)

pub found_clash : (x : ModuleUse) (ys : List ModuleUse) → IsClashAmong x ys (find (do_users_clash x) ys)
found_clash x [] = refl
found_clash x (y ∷ ys) = by (do_users_clash x y) refl (found_clash x ys)
  where
    by : (b : Bool) → do_users_clash x y ≡ b → IsClashAmong x ys (find (do_users_clash x) ys) → IsClashAmong x (y ∷ ys) (cond b (Some y) (find (do_users_clash x) ys))
    by true e h = (inl refl, e)
    by false e h = later_clash x y ys (find (do_users_clash x) ys) e h

-- What is found in the list at hand, of several; and none in one more of them, and none in all.
pub found_in_one : {X : Type 0} (x : ModuleUse) (f : X → List ModuleUse) (xs all : List X) (i : ℕ) (z : X) (y : ModuleUse) → xs ≡ all → i < length xs → z ≡ get_or xs i z
    → IsClashAmong x (f z) (Some y) → IsClashAmong x (flat_map f all) (Some y)
found_in_one x f xs all i z y e l is h = (among_all f xs all i z y e l is h.0, h.1)

pub none_in_more : {X : Type 0} (x : ModuleUse) (f : X → List ModuleUse) (xs : List X) (i : ℕ) (z : X) → i < length xs → z ≡ get_or xs i z
    → list_any (λ y. list_any (do_users_clash x) (f y)) (take i xs) ≡ false → list_any (do_users_clash x) (f z) ≡ false
    → list_any (λ y. list_any (do_users_clash x) (f y)) (take (i + 1) xs) ≡ false
none_in_more x f xs i z l is h k =
    list_any_more (λ y. list_any (do_users_clash x) (f y)) xs i z l
    ∙ (ap (λ b. b || list_any (do_users_clash x) (f (get_or xs i z))) h ∙ subst (λ w. list_any (do_users_clash x) (f w) ≡ false) is k)

pub none_in_all : {X : Type 0} (x : ModuleUse) (f : X → List ModuleUse) (xs all : List X) (i : ℕ) → xs ≡ all → length xs ≤ i
    → list_any (λ y. list_any (do_users_clash x) (f y)) (take i xs) ≡ false → list_any (do_users_clash x) (flat_map f all) ≡ false
none_in_all x f xs all i e l h =
    subst (λ k. list_any (do_users_clash x) (flat_map f k) ≡ false) e
    (any_flat (do_users_clash x) f xs ∙ (ap (list_any (λ y. list_any (do_users_clash x) (f y))) (sym (take_all i xs l)) ∙ h))

pub some_in_one : {X U : Type 0} (view : U → ModuleUse) (r : Option U) (x : ModuleUse) (f : X → List ModuleUse) (xs : List X) (i : ℕ) (z : X) → i < length xs → z ≡ get_or xs i z
    → IsClashAmong x (f z) (option_map view r) → IfSome r (λ other. IsClashAmong x (flat_map f xs) (Some (view other)))
some_in_one view None x f xs i z l is h = tt
some_in_one view (Some y) x f xs i z l is h = found_in_one x f xs xs i z (view y) refl l is h

-- a name is meant by its first part
same_byte : (n : ℕ) → nat_eq n n ≡ true
same_byte n = search (rules, tests)

one_more : (n : ℕ) → 1 + n ≡ suc n
one_more n = omega arith

meant : (name : Text) → means (first_part name) name ≡ true
meant [] = refl
meant (b ∷ bs) = by (nat_eq b slash) refl (meant bs)
  where
    by : (t : Bool) → nat_eq b slash ≡ t → means (first_part bs) bs ≡ true
        → means (take (cond (not t) (1 + position_or_len (λ c. nat_eq c slash) bs) 0) (b ∷ bs)) (b ∷ bs) ≡ true
    by true e h = e
    by false e h = ap (λ n. means (take n (b ∷ bs)) (b ∷ bs)) (one_more (position_or_len (λ c. nat_eq c slash) bs)) ∙ (ap (λ (t : Bool). t && means (first_part bs) bs) (same_byte b) ∙ h)

-- a conflict with the first part of its name excludes a module
or_true : (a b : Bool) → b ≡ true → (a || b) ≡ true
or_true true b e = refl
or_true false b e = e

any_passes : (p q : Text → Bool) (xs : List Text) → ((t : Text) → p t ≡ true → q t ≡ true) → list_any p xs ≡ true → list_any q xs ≡ true
any_passes p q [] h k = absurd (false≢true k)
any_passes p q (x ∷ xs) h k = by (p x) refl k (any_passes p q xs h)
  where
    by : (b : Bool) → p x ≡ b → (b || list_any p xs) ≡ true → (list_any p xs ≡ true → list_any q xs ≡ true) → (q x || list_any q xs) ≡ true
    by true e l next = ap (λ (b : Bool). b || list_any q xs) (h x e)
    by false e l next = or_true (q x) (list_any q xs) (next l)

in_conflict : (m n : Candidate) (root : Text) → has root (conflict_names m.records) ≡ true → first_part n.name ≡ root → names_in_conflict (as_module m) (as_module n) ≡ true
in_conflict m n root h e =
    any_passes (bytes_eq root) (λ name. means name n.name) (conflict_names m.records)
    (λ t k. subst (λ (r : Text). means r n.name ≡ true) (e ∙ same_text root t k) (meant n.name)) h

either_true : (a b c : Bool) → b ≡ true → (a || (b || c)) ≡ true
either_true true b c h = refl
either_true false true c h = refl
either_true false false c h = cc

both_hold : (r c : Bool) → r ≡ false → c ≡ true → (not r && c) ≡ true
both_hold r c h k = rw (h, k) refl

-- so it does by a use that isn't a read
pub excluded : (m n : Candidate) (root : Text) (x y : VariableUse) → is_read x ≡ false → has root (conflict_names m.records) ≡ true → first_part n.name ≡ root → are_mutually_exclusive m n x y ≡ true
excluded m n root x y r h e =
    either_true (bytes_eq m.name n.name) (excludes_by x m n) (excludes_by y n m)
    (both_hold (is_read x) (names_in_conflict (as_module m) (as_module n)) r (in_conflict m n root h e))

and_false : (a b : Bool) → b ≡ false → (a && b) ≡ false
and_false true b h = h
and_false false b h = refl

kept_parts : (r c : Bool) → (not r && c) ≡ true → (r ≡ false) × (c ≡ true)
kept_parts true c h = absurd (false≢true h)
kept_parts false c h = (refl, h)

-- nobody of the family clashes
pub family_passed_over : (x : ModuleUse) (root : Text) (way : VariableUse) (ys : List ModuleUse) → (not (is_read x.used.1) && has root (conflict_names x.owner.records)) ≡ true
    → uses_clash true x.used.1 way ≡ false → ((y : ModuleUse) → IsAmong y ys → first_part y.owner.name ≡ root)
    → ((y : ModuleUse) → IsAmong y ys → y.used.1 ≡ way) → list_any (do_users_clash x) ys ≡ false
family_passed_over x root way ys c u rooted alike =
    let p = kept_parts (is_read x.used.1) (has root (conflict_names x.owner.records)) c in
    none_passes (do_users_clash x) ys
    (λ y a. and_false (is_other x.owner y.owner) (uses_clash (are_mutually_exclusive x.owner y.owner x.used.1 y.used.1) x.used.1 y.used.1)
    (ap (λ (b : Bool). uses_clash b x.used.1 y.used.1) (excluded x.owner y.owner root x.used.1 y.used.1 p.0 p.1 (rooted y a)) ∙ (ap (uses_clash true x.used.1) (alike y a) ∙ u)))

-- compatible uses don't clash
agree_itself : (x : VariableUse) → agree_at_start x x ≡ true
agree_itself Untouched = refl
agree_itself (Fixed a) = use_itself (Fixed a)
agree_itself Absent = refl
agree_itself (Pathed d) = refl
agree_itself Stacked = refl

at_start : (e t a : Bool) → t ≡ true → a ≡ true → (not (e || t) || not a) ≡ false
at_start true t a h k = ap not k
at_start false t a h k = rw (h, k) refl

together : (e : Bool) (x y : VariableUse) → are_compatible x y ≡ true → uses_clash e x y ≡ false
together e x y h = at_start e (are_compatible x y) (agree_at_start x y) h (ap (agree_at_start x) (sym (go_equal x y h)) ∙ agree_itself x)

-- nobody whose use is compatible with the first clashes
pub way_passed_over : (x : ModuleUse) (way : VariableUse) (ys : List ModuleUse) → are_compatible x.used.1 way ≡ true
    → ((y : ModuleUse) → IsAmong y ys → y.used.1 ≡ way) → list_any (do_users_clash x) ys ≡ false
way_passed_over x way ys g alike =
    none_passes (do_users_clash x) ys
    (λ y a. and_false (is_other x.owner y.owner) (uses_clash (are_mutually_exclusive x.owner y.owner x.used.1 y.used.1) x.used.1 y.used.1)
    (ap (uses_clash (are_mutually_exclusive x.owner y.owner x.used.1 y.used.1) x.used.1) (alike y a) ∙ together (are_mutually_exclusive x.owner y.owner x.used.1 y.used.1) x.used.1 way g))
