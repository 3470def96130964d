-- One name that is forgotten, and names in turn.
use Rattle.std.proofs.Common.{◌≡◌, ◌<◌, ◌+◌, ℕ, Bool, true, false, cond, not, ◌||◌, List, [], ◌∷◌, ◌++◌, map, reverse, find, drop, get_or, length, refl, sym, ap, ◌∙◌, subst}
use Rattle.std.proofs.Common.{Option, Some, None, Result, Ok, Err}
use Rattle.std.specs.Prelude.{bytes_eq}
use Rattle.std.proofs.lemmas.List.{reverse-append}
use Rattle.modulename.specs.ModuleName.{means}
use Rattle.envvars.specs.Texts.{Text, has}
use Rattle.envvars.specs.Environment.{Environment}
use Rattle.envvars.specs.Reasons.{EnvReason, inconsistent}
use Rattle.envvars.specs.declared.fault.EnvFault.{EnvFault}
use Rattle.envvars.specs.declared.fault.EnvFault.TheVariants.{BadStack, BadValue, BadVariable, CounterFull, Inconsistent, OutOfMemory, Protected}
use Rattle.envvars.proofs.TextLemmas.{bytes_eq-same, has-push}
use Rattle.envstate.specs.loaded_list.Loaded.{Entry, dropped_from, dropped_loaded, loaded_in, names_of, with_loaded, without_entry}
use Rattle.envstate.specs.loaded_list.LoadedEntries.{GivesList}
use Rattle.filetree.specs.Agreement.{FailsIf, Files, Listings, InEachPair, is_device}
use Rattle.filetree.specs.declared.tree.TreeFault.{TreeFault}
use Rattle.filetree.specs.declared.tree.TreeFault.TheVariants as trees
use Rattle.filetree.specs.Causes.{Applies, Cause, because, device, memory}
use Rattle.filetree.specs.Relations.{If, Is}
use Rattle.requests.specs.Steps.{last_meant}
use Rattle.requests.proofs.ListLemmas.{map-reverse}
use Rattle.module_restore.specs.forgetting.Answers.{cause_of, is_failure}
use Rattle.module_restore.specs.forgetting.Forgets.{ForgetReason, ForgetsEach, ForgetsEntry, ForgetsMeant, ForgetsName, Forgetting, IsForgotten, can_go, consistent, file_there, not_loaded, refused_edit}
use Rattle.module_restore.specs.forgetting.Looked.{IsRecorded}
use Rattle.module_restore.specs.declared.forgetting.fault.ForgetRefusal.TheVariants as refusals
use Rattle.module_restore.proofs.forgetting.LawLemmas.{others_loaded}
use Rattle.module_restore.proofs.forgetting.ListLemmas.{split_at}

-- ---- one name

module _ (settings_stay : Bool) (files : Files) (name : Text) (e : Environment) (names : List Text) where
  abbrev start : Forgetting
  start = record { env = e; names = names }

  pub unread : loaded_in e ≡ None → ForgetsName settings_stay files name (record { env = e; names = names }) (Err (refused_edit inconsistent))
  unread h = (Err (refused_edit inconsistent), sym (ap consistent h), refl)

  module _ (entries : List Entry) (read : loaded_in e ≡ Some entries) where
    by_meant : (o : Option Entry) (r : Result Forgetting ForgetReason) → last_meant name entries ≡ o → ForgetsMeant settings_stay files name start o r
        → ForgetsName settings_stay files name (record { env = e; names = names }) r
    by_meant o r meant h =
        (Ok entries, sym (ap consistent read), subst (λ (x : Option Entry). ForgetsMeant settings_stay files name start x r) (sym meant) h)

    pub unmeant : last_meant name entries ≡ None → ForgetsName settings_stay files name (record { env = e; names = names }) (Err (not_loaded name))
    unmeant meant = by_meant None (Err (not_loaded name)) meant refl

    pub stays : (x : Entry) → last_meant name entries ≡ Some x → can_go settings_stay files x.path ≡ false
        → ForgetsName settings_stay files name (record { env = e; names = names }) (Err (file_there x.path))
    stays x meant there =
        by_meant (Some x) (Err (file_there x.path)) meant
        (subst (λ (b : Bool). If b (ForgetsEntry x start) (Is (Err (file_there x.path))) (Err (file_there x.path))) (sym there) refl)

    pub goes : (x : Entry) (after : Environment) → last_meant name entries ≡ Some x → can_go settings_stay files x.path ≡ true → IsForgotten x.name e after
        → ForgetsName settings_stay files name (record { env = e; names = names }) (Ok (record { env = after; names = names ++ x.name ∷ [] }))
    goes x after meant gone forgotten =
        let d : Result Forgetting ForgetReason = Ok (record { env = after; names = names ++ x.name ∷ [] }) in
        by_meant (Some x) d meant
        (subst (λ (b : Bool). If b (ForgetsEntry x start) (Is (Err (file_there x.path))) d) (sym gone) (after, forgotten, refl))

-- lists that can't be read
module _ (agrees : Files → Listings → Type 0) (failed : Type 0) (settings_stay : Bool) (name : Text) (e : Environment) (names : List Text) where
  pub unread_fault : (fault : EnvFault) → GivesList (Err fault) (loaded_in e)
      → Applies (cause_of (refusals.Env fault)) failed (λ r. InEachPair agrees (λ files listings. ForgetsName settings_stay files name (record { env = e; names = names }) (Err r)))
  unread_fault OutOfMemory h = tt
  unread_fault Inconsistent h = λ files listings a. unread settings_stay files name e names h
  unread_fault (BadVariable x) h = absurd h
  unread_fault (Protected x) h = absurd h
  unread_fault (CounterFull x) h = absurd h
  unread_fault (BadStack x) h = absurd h
  unread_fault (BadValue x) h = absurd h

-- a list that was read is dropped from: only memory can be wanting
dropped : (e : Environment) (o : Text) (xs : List Entry) (b : Bool) (r : EnvReason) → (cond b (Ok (with_loaded e (without_entry o xs))) (Ok e)) ≡ (let x : Result Environment EnvReason = Err r in x) → ⊥
dropped e o xs true r h = cc
dropped e o xs false r h = cc

pub is_dropped : (e : Environment) (o : Text) (xs : List Entry) (r : EnvReason) → loaded_in e ≡ Some xs → dropped_loaded e o ≡ Err r → ⊥
is_dropped e o xs r read h = dropped e o xs (has o (names_of xs)) r (sym (ap (dropped_from e o) read) ∙ h)

-- ---- recorded paths

paths_if : (b : Bool) (at : Text) (x : Entry) (xs ys : List Entry) → (has at (map (λ (y : Entry). y.path) ys) ≡ true → has at (map (λ (y : Entry). y.path) xs) ≡ true)
    → has at (map (λ (y : Entry). y.path) (cond b (x ∷ ys) ys)) ≡ true → has at (map (λ (y : Entry). y.path) (x ∷ xs)) ≡ true
paths_if true at x xs ys h k = either (bytes_eq at x.path) k
  where
    either : (b : Bool) → (b || has at (map (λ (y : Entry). y.path) ys)) ≡ true → (b || has at (map (λ (y : Entry). y.path) xs)) ≡ true
    either true q = refl
    either false q = h q
paths_if false at x xs ys h k = or_true (bytes_eq at x.path) (h k)
  where
    or_true : (b : Bool) {c : Bool} → c ≡ true → (b || c) ≡ true
    or_true true q = refl
    or_true false q = q

paths_less : (at o : Text) (xs : List Entry) → has at (map (λ (y : Entry). y.path) (without_entry o xs)) ≡ true → has at (map (λ (y : Entry). y.path) xs) ≡ true
paths_less at o [] h = h
paths_less at o (x ∷ xs) h = paths_if (not (bytes_eq o x.name)) at x xs (without_entry o xs) (paths_less at o xs) h

same_entries : (o : Option (List Entry)) (xs ys : List Entry) → o ≡ Some xs → o ≡ Some ys → xs ≡ ys
same_entries o xs ys h k = cc

pub recorded_before : (o : Text) (e after : Environment) (entries : List Entry) → loaded_in e ≡ Some entries → IsForgotten o e after → (at : Text) → IsRecorded after at → IsRecorded e at
recorded_before o e after entries read forgotten at (left, is, there) =
    let same : left ≡ without_entry o entries = same_entries (loaded_in after) left (without_entry o entries) is (others_loaded o e after entries read forgotten) in
    (entries, read, paths_less at o entries (subst (λ (ys : List Entry). has at (map (λ (y : Entry). y.path) ys) ≡ true) same there))

-- ---- names in turn

module _ {X : Type 0} (view : X → Text) (settings_stay : Bool) (files : Files) (xs : List X) (i : ℕ) (x : X) (below : i < length xs) (is : x ≡ get_or xs i x) (d : Forgetting) where
  pub each_refused : (r : ForgetReason) → ForgetsName settings_stay files (view x) d (Err r) → ForgetsEach settings_stay files (map view (drop i xs)) d (Err r)
  each_refused r h = subst (λ names. ForgetsEach settings_stay files names d (Err r)) (sym (split_at view xs i x below is)) (Err r, h, refl)

  pub each_on : (mid : Forgetting) → ForgetsName settings_stay files (view x) d (Ok mid) → (o : Result Forgetting ForgetReason)
      → ForgetsEach settings_stay files (map view (drop (i + 1) xs)) mid o → ForgetsEach settings_stay files (map view (drop i xs)) d o
  each_on mid h o k = subst (λ names. ForgetsEach settings_stay files names d o) (sym (split_at view xs i x below is)) (Ok mid, h, k)

-- ---- a device that fails

-- the failure of a tree, as that of one name
pub unread_file : (fault : TreeFault) (before now : Text → Bool) (path : Text) (W : Text → Type 0) → W path
    → FailsIf (is_device fault) before now (λ at. at ≡ path) → FailsIf (is_failure (refusals.Tree fault)) before now W
unread_file trees.OutOfMemory before now path W w h = h
unread_file trees.Device before now path W w (at, failed, same) = (at, failed, subst W (sym same) w)

-- a path of an entry that a name means
meant_first : (b : Bool) (at : Text) (x y : Entry) (rest : List Text) (found : Option Entry) → at ≡ x.path → (found ≡ Some x → has at rest ≡ true)
    → cond b (Some y) found ≡ Some x → (bytes_eq at y.path || has at rest) ≡ true
meant_first true at x y rest found same later h =
    let first : y ≡ x = cc in
    ap (λ (b : Bool). b || has at rest) (ap (bytes_eq at) (ap (λ (z : Entry). z.path) first ∙ sym same) ∙ bytes_eq-same at)
meant_first false at x y rest found same later h = or_true (bytes_eq at y.path) (later h)
  where
    or_true : (b : Bool) {c : Bool} → c ≡ true → (b || c) ≡ true
    or_true true q = refl
    or_true false q = q

meant_in : (name at : Text) (xs : List Entry) (x : Entry) → find (λ y. means name y.name) xs ≡ Some x → at ≡ x.path → has at (map (λ (y : Entry). y.path) xs) ≡ true
meant_in name at [] x h same = cc
meant_in name at (y ∷ ys) x h same =
    meant_first (means name y.name) at x y (map (λ (z : Entry). z.path) ys) (find (λ z. means name z.name) ys) same (λ k. meant_in name at ys x k same) h

has_reverse : (at : Text) (ys : List Text) → has at (reverse ys) ≡ has at ys
has_reverse at [] = refl
has_reverse at (y ∷ ys) = ap (has at) (reverse-append (y ∷ []) ys) ∙ has-push (reverse ys) y at ∙ ap (λ (b : Bool). bytes_eq at y || b) (has_reverse at ys)

paths_reverse : (at : Text) (xs : List Entry) → has at (map (λ (y : Entry). y.path) (reverse xs)) ≡ true → has at (map (λ (y : Entry). y.path) xs) ≡ true
paths_reverse at xs h = sym (ap (has at) (map-reverse (λ (y : Entry). y.path) xs) ∙ has_reverse at (map (λ (y : Entry). y.path) xs)) ∙ h

pub recorded_here : (name : Text) (e : Environment) (entries : List Entry) (x : Entry) → loaded_in e ≡ Some entries → last_meant name entries ≡ Some x → IsRecorded e x.path
recorded_here name e entries x read meant = (entries, read, paths_reverse x.path entries (meant_in name x.path (reverse entries) x meant refl))

-- ---- causes

-- a cause that applies, also where more can have failed, and for reasons of a whole
pub stands_as : {R : Type 0} (c : Cause R) (failed before : Type 0) (P Q : R → Type 0) → (failed → before) → ((r : R) → P r → Q r) → Applies c failed P → Applies c before Q
stands_as memory failed before P Q later then h = tt
stands_as device failed before P Q later then h = later h
stands_as (because r) failed before P Q later then h = then r h
