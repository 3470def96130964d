-- What is put together, each once, a piece at a time; and names that are compared one by one.
use Rattle.std.proofs.Common.{◌≡◌, ℕ, ◌+◌, ◌<◌, Bool, true, false, cond, not, ◌&&◌, List, [], ◌∷◌, ◌++◌, length, get_or}
use Rattle.std.proofs.Common.{take, map, filter, refl, sym, ap, ◌∙◌, subst}
use Rattle.std.proofs.Common.{string_bytes, String, Global, Option, Some, None}
use Rattle.std.specs.Prelude.{bytes_eq}
use Rattle.std.specs.List.{list_any, cons_option}
use Rattle.std.proofs.lemmas.List.{map-append}
use Rattle.indexmap.specs.IndexSet.{insert_key, insert_all}
use Rattle.envvars.specs.Texts.{Text}
use Rattle.modulefile.specs.Records.{Record, conflicts_of, conflict_names, prereqs_of, prereq_groups}
use Rattle.audit_certificate.proofs.UsedLemmas.{by_test}
use Rattle.audit_laws.specs.site.DirectorySets.{with_directories}
use Rattle.audit_laws.specs.determinism.Contexts.{same_by}
use Rattle.audit_site.specs.Mentions.{unknown_among, unknown_groups}
use Rattle.audit_site.proofs.AmongLemmas.{taken}

-- ---- pieces

insert_append : {K : Type 0} (eq : K → K → Bool) (ks xs ys : List K) → insert_all eq ks (xs ++ ys) ≡ insert_all eq (insert_all eq ks xs) ys
insert_append eq ks [] ys = refl
insert_append eq ks (x ∷ xs) ys = insert_append eq (insert_key eq ks x) xs ys

-- with those of one item more
pub inserted_turn : {X K : Type 0} (eq : K → K → Bool) (of : List X → List K) → ((xs ys : List X) → of (xs ++ ys) ≡ of xs ++ of ys)
    → (start old new piece : List K) (xs : List X) (i : ℕ) (x : X) → i < length xs → x ≡ get_or xs i x
    → of (x ∷ []) ≡ piece → old ≡ insert_all eq start (of (take i xs)) → new ≡ insert_all eq old piece → new ≡ insert_all eq start (of (take (i + 1) xs))
inserted_turn {X} {K} eq of append start old new piece xs i x l e one h k =
    k ∙ (ap (λ (ks : List K). insert_all eq ks piece) h
    ∙ (sym (insert_append eq start (of (take i xs)) piece)
    ∙ ap (insert_all eq start) (ap (λ (ts : List K). of (take i xs) ++ ts) (sym one) ∙ (sym (append (take i xs) (x ∷ [])) ∙ ap of (sym (taken xs i x l e))))))

filter_parts : {X : Type 0} (p : X → Bool) (xs ys : List X) → filter p (xs ++ ys) ≡ filter p xs ++ filter p ys
filter_parts p [] ys = refl
filter_parts {X} p (x ∷ xs) ys = by_test (p x) _
    (λ t. rw t (ap (λ (l : List X). x ∷ l) (filter_parts p xs ys)))
    (λ f. rw f (filter_parts p xs ys))

-- the unknown ones of names, of conflicts and of prereqs, in parts

pub names_parts : (known : Text → Bool) (xs ys : List (String Global)) → unknown_among known (map string_bytes (xs ++ ys)) ≡ unknown_among known (map string_bytes xs) ++ unknown_among known (map string_bytes ys)
names_parts known xs ys = ap (unknown_among known) (map-append string_bytes xs ys) ∙ filter_parts (λ name. not (known name)) (map string_bytes xs) (map string_bytes ys)

conflicts_append : (xs ys : List Record) → conflict_names (xs ++ ys) ≡ conflict_names xs ++ conflict_names ys
conflicts_append [] ys = refl
conflicts_append (x ∷ xs) ys = ap (λ (l : List Text). conflicts_of x ++ l) (conflicts_append xs ys)
    ∙ sym (joined (conflicts_of x) (conflict_names xs) (conflict_names ys))
  where
    joined : (us vs ws : List Text) → (us ++ vs) ++ ws ≡ us ++ (vs ++ ws)
    joined [] vs ws = refl
    joined (u ∷ us) vs ws = ap (λ (l : List Text). u ∷ l) (joined us vs ws)

pub conflicts_parts : {X : Type 0} (view : X → Record) (known : Text → Bool) (xs ys : List X)
    → unknown_among known (conflict_names (map view (xs ++ ys))) ≡ unknown_among known (conflict_names (map view xs)) ++ unknown_among known (conflict_names (map view ys))
conflicts_parts view known xs ys =
    ap (λ (rs : List Record). unknown_among known (conflict_names rs)) (map-append view xs ys)
    ∙ (ap (unknown_among known) (conflicts_append (map view xs) (map view ys)) ∙ filter_parts (λ name. not (known name)) (conflict_names (map view xs)) (conflict_names (map view ys)))

groups_step : (o : Option (List Text)) (xs ys zs : List (List Text)) → xs ≡ ys ++ zs → cons_option o xs ≡ cons_option o ys ++ zs
groups_step None xs ys zs e = e
groups_step (Some g) xs ys zs e = ap (λ (l : List (List Text)). g ∷ l) e

groups_append : (xs ys : List Record) → prereq_groups (xs ++ ys) ≡ prereq_groups xs ++ prereq_groups ys
groups_append [] ys = refl
groups_append (x ∷ xs) ys = groups_step (prereqs_of x) (prereq_groups (xs ++ ys)) (prereq_groups xs) (prereq_groups ys) (groups_append xs ys)

pub groups_parts : {X : Type 0} (view : X → Record) (known : Text → Bool) (xs ys : List X)
    → unknown_groups known (prereq_groups (map view (xs ++ ys))) ≡ unknown_groups known (prereq_groups (map view xs)) ++ unknown_groups known (prereq_groups (map view ys))
groups_parts view known xs ys =
    ap (λ (rs : List Record). unknown_groups known (prereq_groups rs)) (map-append view xs ys)
    ∙ (ap (unknown_groups known) (groups_append (map view xs) (map view ys)) ∙ filter_parts (λ names. not (list_any known names)) (prereq_groups (map view xs)) (prereq_groups (map view ys)))

-- ---- one name, and one group

pub unknown_added : (known : Text → Bool) (old new : List Text) (name : Text) (b : Bool) → b ≡ known name → b ≡ false → new ≡ with_directories old (name ∷ [])
    → new ≡ with_directories old (unknown_among known (name ∷ []))
unknown_added known old new name b e f h = subst (λ (t : Bool). new ≡ with_directories old (cond (not t) (name ∷ []) [])) (sym f ∙ e) h

pub group_added : (known : Text → Bool) (old new : List (List Text)) (g : List Text) (a b : Bool) → a ≡ list_any known g → b ≡ list_any (same_by bytes_eq g) old
    → new ≡ cond (not a && not b) (old ++ g ∷ []) old → new ≡ insert_all (same_by bytes_eq) old (unknown_groups known (g ∷ []))
group_added known old new g true b e f h = subst (λ (t : Bool). new ≡ insert_all (same_by bytes_eq) old (cond (not t) (g ∷ []) [])) e h
group_added known old new g false true e f h =
    subst (λ (t : Bool). new ≡ insert_all (same_by bytes_eq) old (cond (not t) (g ∷ []) [])) e (subst (λ (t : Bool). new ≡ cond t old (old ++ g ∷ [])) f h)
group_added known old new g false false e f h =
    subst (λ (t : Bool). new ≡ insert_all (same_by bytes_eq) old (cond (not t) (g ∷ []) [])) e (subst (λ (t : Bool). new ≡ cond t old (old ++ g ∷ [])) f h)
