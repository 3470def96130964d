-- What edits of the loaded list leave in an environment.
use Rattle.std.proofs.Common.{◌≡◌, Bool, true, false, cond, not, ◌&&◌, List, [], ◌∷◌, ◌++◌, refl, sym, ap, ◌∙◌, Some}
use Rattle.std.proofs.Common.{Result, Ok, Err}
use Rattle.std.specs.Prelude.{filter, bytes_eq, if◌then◌else◌}
use Rattle.std.specs.List.{list_all}
use Rattle.std.proofs.lemmas.Bool.{false≢true}
use Rattle.modulename.specs.ModuleName.{is_module_name}
use Rattle.envvars.specs.Texts.{Text, has}
use Rattle.envvars.specs.Environment.{Environment, lookup}
use Rattle.envvars.specs.Fields.{are_distinct, without_repeats}
use Rattle.envstate.specs.loaded_list.LoadedTexts.{names_variable, files_variable, conflicts_variable, prereqs_variable}
use Rattle.envstate.specs.loaded_list.Loaded.{Entry, names_of, loaded_in, with_loaded, is_path, is_group, is_entry, IsLoadedList}
use Rattle.envstate.specs.loaded_list.Loaded.{can_be_added, with_conflicts_once, added_to, added_loaded, without_entry}
use Rattle.envstate.specs.loaded_list.Loaded.{dropped_from, dropped_loaded}
use Rattle.envvars.specs.Reasons.{EnvReason, inconsistent}
use Rattle.envvars.proofs.TextLemmas.{bytes_eq-symmetric, or_left, or_right}
use Rattle.envvars.proofs.EnvLemmas.{lookup-with_value}
use Rattle.envvars.proofs.EditLemmas.{both_true, and_both, not_is}
use Rattle.envstate.proofs.loaded_list.LoadedAgain.{good, loaded_again}
use Rattle.envstate.proofs.loaded_list.LoadedReadable.{firsts_pass, distinct_firsts, loaded_readable}

names-push : (xs : List Entry) (x : Entry) → names_of (xs ++ x ∷ []) ≡ names_of xs ++ x.name ∷ []
names-push [] x = refl
names-push (y ∷ ys) x = ap (λ (l : List Text). y.name ∷ l) (names-push ys x)

has_push : (x n : Text) (xs : List Text) → has x xs ≡ false → bytes_eq x n ≡ false → has x (xs ++ n ∷ []) ≡ false
has_push x n [] h e = rw e refl
has_push x n (y ∷ ys) h e = rw (or_left (bytes_eq x y) (has x ys) h) (has_push x n ys (or_right (bytes_eq x y) (has x ys) h) e)

distinct_push : (xs : List Text) (n : Text) → are_distinct xs ≡ true → has n xs ≡ false → are_distinct (xs ++ n ∷ []) ≡ true
distinct_push [] n d h = refl
distinct_push (x ∷ xs) n d h =
    let k = both_true (not (has x xs)) (are_distinct xs) d in
    let e : bytes_eq x n ≡ false = bytes_eq-symmetric x n ∙ or_left (bytes_eq n x) (has n xs) h in
    and_both (not (has x (xs ++ n ∷ []))) (are_distinct (xs ++ n ∷ [])) (rw (has_push x n xs (not_is (has x xs) k.0) e) refl) (distinct_push xs n k.1 (or_right (bytes_eq n x) (has n xs) h))

entry_once : (x : Entry) → is_entry x ≡ true → is_entry (with_conflicts_once x) ≡ true
entry_once x h =
    let g = good x h in
    and_both (is_module_name x.name && is_path x.path) (list_all is_module_name (without_repeats x.conflicts) && list_all is_group x.prereqs)
    (and_both (is_module_name x.name) (is_path x.path) g.name g.path)
    (and_both (list_all is_module_name (without_repeats x.conflicts)) (list_all is_group x.prereqs) (firsts_pass is_module_name x.conflicts g.conflicts) g.prereqs)

all_push : (p : Entry → Bool) (xs : List Entry) (x : Entry) → list_all p xs ≡ true → p x ≡ true → list_all p (xs ++ x ∷ []) ≡ true
all_push p [] x h k = rw k refl
all_push p (y ∷ ys) x h k = let g = both_true (p y) (list_all p ys) h in and_both (p y) (list_all p (ys ++ x ∷ [])) g.0 (all_push p ys x g.1 k)

pub list_push : (xs : List Entry) (x : Entry) → IsLoadedList xs → can_be_added xs x ≡ true → IsLoadedList (xs ++ with_conflicts_once x ∷ [])
list_push xs x l h =
    let k = both_true (is_entry x) (not (has x.name (names_of xs))) h in
    record {
      each = all_push is_entry xs (with_conflicts_once x) l.each (entry_once x k.0);
      names = ap are_distinct (names-push xs (with_conflicts_once x)) ∙ distinct_push (names_of xs) x.name l.names (not_is (has x.name (names_of xs)) k.1);
      conflicts = all_push (λ y. are_distinct y.conflicts) xs (with_conflicts_once x) l.conflicts (distinct_firsts x.conflicts);
    }

-- one less
all_less : (p q : Entry → Bool) (xs : List Entry) → list_all p xs ≡ true → list_all p (filter q xs) ≡ true
all_less p q [] h = refl
all_less p q (x ∷ xs) h = at (q x) (both_true (p x) (list_all p xs) h).0 (all_less p q xs (both_true (p x) (list_all p xs) h).1)
  where
    at : (b : Bool) → p x ≡ true → list_all p (filter q xs) ≡ true → list_all p (cond b (x ∷ filter q xs) (filter q xs)) ≡ true
    at true k r = and_both (p x) (list_all p (filter q xs)) k r
    at false k r = r

has_if : (b : Bool) (n : Text) (x : Entry) (xs : List Entry) → bytes_eq n x.name ≡ false → has n (names_of xs) ≡ false → has n (names_of (cond b (x ∷ xs) xs)) ≡ false
has_if true n x xs e r = rw e r
has_if false n x xs e r = r

has_less : (q : Entry → Bool) (n : Text) (xs : List Entry) → has n (names_of xs) ≡ false → has n (names_of (filter q xs)) ≡ false
has_less q n [] h = refl
has_less q n (x ∷ xs) h = has_if (q x) n x (filter q xs) (or_left (bytes_eq n x.name) (has n (names_of xs)) h) (has_less q n xs (or_right (bytes_eq n x.name) (has n (names_of xs)) h))

distinct_less : (q : Entry → Bool) (xs : List Entry) → are_distinct (names_of xs) ≡ true → are_distinct (names_of (filter q xs)) ≡ true
distinct_less q [] h = refl
distinct_less q (x ∷ xs) h =
    let k = both_true (not (has x.name (names_of xs))) (are_distinct (names_of xs)) h in
    at (q x) (has_less q x.name xs (not_is (has x.name (names_of xs)) k.0)) (distinct_less q xs k.1)
  where
    at : (b : Bool) → has x.name (names_of (filter q xs)) ≡ false → are_distinct (names_of (filter q xs)) ≡ true → are_distinct (names_of (cond b (x ∷ filter q xs) (filter q xs))) ≡ true
    at true f r = and_both (not (has x.name (names_of (filter q xs)))) (are_distinct (names_of (filter q xs))) (rw f refl) r
    at false f r = r

pub list_less : (name : Text) (xs : List Entry) → IsLoadedList xs → IsLoadedList (without_entry name xs)
list_less name xs l =
    record {
      each = all_less is_entry (λ x. not (bytes_eq name x.name)) xs l.each;
      names = distinct_less (λ x. not (bytes_eq name x.name)) xs l.names;
      conflicts = all_less (λ x. are_distinct x.conflicts) (λ x. not (bytes_eq name x.name)) xs l.conflicts;
    }

-- after an accepted edit
added_if : (b : Bool) (old new next : Environment) → (if b then Ok next else Err inconsistent) ≡ Ok new → (b ≡ true) × (next ≡ new)
added_if true old new next h = (refl, cc)
added_if false old new next h = cc

pub loaded_after_add : (old new : Environment) (x : Entry) (xs : List Entry) → loaded_in old ≡ Some xs → added_loaded old x ≡ Ok new → loaded_in new ≡ Some (xs ++ with_conflicts_once x ∷ [])
loaded_after_add old new x xs l h =
    let e = added_if (can_be_added xs x) old new (with_loaded old (xs ++ with_conflicts_once x ∷ [])) (sym (ap (added_to old x) l) ∙ h) in
    ap loaded_in (sym e.1) ∙ loaded_again old (xs ++ with_conflicts_once x ∷ []) (list_push xs x (loaded_readable old xs l) e.0)

abbrev accepted : Environment → Result Environment EnvReason
accepted e = Ok e

dropped_if : (b : Bool) (old new next : Environment) → (if b then accepted next else accepted old) ≡ accepted new → (b ≡ true → loaded_in next ≡ loaded_in new)
dropped_if true old new next h t = let e : next ≡ new = cc in ap loaded_in e
dropped_if false old new next h t = absurd (false≢true t)

pub loaded_after_drop : (old new : Environment) (name : Text) (xs : List Entry) → loaded_in old ≡ Some xs
    → has name (names_of xs) ≡ true → dropped_loaded old name ≡ Ok new → loaded_in new ≡ Some (without_entry name xs)
loaded_after_drop old new name xs l t h =
    sym (dropped_if (has name (names_of xs)) old new (with_loaded old (without_entry name xs)) (sym (ap (dropped_from old name) l) ∙ h) t)
    ∙ loaded_again old (without_entry name xs) (list_less name xs (loaded_readable old xs l))

-- every other variable stays
pub others_stay : (e : Environment) (xs : List Entry) (q : Text) → bytes_eq q names_variable ≡ false
    → bytes_eq q files_variable ≡ false → bytes_eq q conflicts_variable ≡ false → bytes_eq q prereqs_variable ≡ false
    → lookup (with_loaded e xs) q ≡ lookup e q
others_stay e xs q n f c p = simp (lookup-with_value, n, f, c, p)
