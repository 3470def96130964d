-- The list that is kept beside the variables is what their texts are read as.
use Rattle.std.proofs.Common.{◌≡◌, List, [], ◌∷◌, ◌++◌, Option, Some, None, Result, Ok, Err, OnOk, refl, sym, ap, ◌∙◌}
use Rattle.std.proofs.Common.{subst}
use Rattle.envvars.specs.Texts.{Text}
use Rattle.envvars.specs.Fields.{without_repeats}
use Rattle.envvars.specs.Environment.{Environment}
use Rattle.envvars.specs.Reasons.{EnvReason, Edits}
use Rattle.envvars.specs.declared.fault.EnvFault.{EnvFault}
use Rattle.envstate.specs.loaded_list.Loaded.{Entry, loaded_in, with_conflicts_once, without_entry, added_to, added_loaded}
use Rattle.envstate.specs.loaded_list.Loaded.{dropped_from, dropped_loaded}
use Rattle.envstate.proofs.loaded_list.LoadedEdits.{loaded_after_add}
use Rattle.envstate.proofs.StateLemmas.{dropped_list}
use Rattle.modulefile.specs.Records.{conflict_names, prereq_groups}
use Rattle.modulefile.specs.Effects.{edit_outcome}
use Rattle.modulefile.specs.Moves.{Module, entry_of}
use Rattle.requests.specs.Reasons.{RequestReason, refused_edit}
use Rattle.requests.specs.Refusals.{refused_as, unless}
use Rattle.requests.specs.Conditions.{load_objection}
use Rattle.requests.specs.Steps.{consistent, entries_of}
use Rattle.modules.specs.declared.refusal.Refusal.{Refusal}
use Rattle.modules.specs.Parts.{AreEntriesOf, allowed_entry, added}

as_read : (o : Option (List Entry)) (xs : List Entry) → Ok xs ≡ consistent o → o ≡ Some xs
as_read None xs h = absurd (cc)
as_read (Some ys) xs h = let q : ys ≡ xs = cc in ap Some q

pub read_as : (xs : List Entry) (e : Environment) → AreEntriesOf xs e → loaded_in e ≡ Some xs
read_as xs e h = as_read (loaded_in e) xs h

-- the list, as an outcome of reading it
abbrev pub listing : List Entry → Result (List Entry) RequestReason
listing xs = Ok xs

-- where no text of it changes, it is read again
pub listed_on : (r : Result (Unit {0}) Refusal) (xs : List Entry) (old new : Environment) → AreEntriesOf xs old → OnOk r (entries_of new ≡ entries_of old) → OnOk r (AreEntriesOf xs new)
listed_on (Ok u) xs old new h k = h ∙ sym k
listed_on (Err e) xs old new h k = tt

-- an edit of the list is one of what is read
pub adds_read : (r : Result (Unit {0}) EnvFault) (old new : Environment) (x : Entry) (xs : List Entry)
    → AreEntriesOf xs old → Edits r old new (added_to old x (Some xs)) → Edits r old new (added_loaded old x)
adds_read r old new x xs h k = subst (λ (o : Option (List Entry)). Edits r old new (added_to old x o)) (sym (read_as xs old h)) k

pub drop_read : (e : Environment) (name : Text) (xs : List Entry) → AreEntriesOf xs e → (r : Result Environment EnvReason) → dropped_from e name (Some xs) ≡ r → dropped_loaded e name ≡ r
drop_read e name xs h r k = ap (λ (o : Option (List Entry)). dropped_from e name o) (read_as xs e h) ∙ k

-- after it the new list is read
pub listed_added : (old new : Environment) (x : Entry) (xs ys : List Entry) → AreEntriesOf xs old → added_loaded old x ≡ Ok new → ys ≡ xs ++ with_conflicts_once x ∷ [] → AreEntriesOf ys new
listed_added old new x xs ys h made e = ap Ok e ∙ sym (ap consistent (loaded_after_add old new x xs (read_as xs old h) made))

pub listed_dropped : (old new : Environment) (name : Text) (xs ys : List Entry) → AreEntriesOf xs old → dropped_loaded old name ≡ Ok new → ys ≡ without_entry name xs → AreEntriesOf ys new
listed_dropped old new name xs ys h made e = ap Ok e ∙ sym (ap consistent (dropped_list old new name xs (read_as xs old h) made))

-- ---- a module that joins the list

abbrev entry_with : Module → List Text → List (List Text) → Entry
entry_with m conflicts prereqs = record { name = m.name; path = m.path; conflicts = without_repeats conflicts; prereqs = prereqs }

allowed : (o : Option RequestReason) → Ok tt ≡ unless {A = Unit {0}} o (Ok tt) → o ≡ None
allowed None h = refl
allowed (Some r) h = absurd (cc)

-- its entry, where nothing forbids it
pub entry_allowed : (xs : List Entry) (m : Module) (x : Entry) (conflicts : List Text) (prereqs : List (List Text)) → x ≡ entry_with m conflicts prereqs → conflicts ≡ conflict_names m.records
    → prereqs ≡ prereq_groups m.records → Ok tt ≡ unless {A = Unit {0}} (load_objection m.name m.records xs) (Ok tt) → Ok x ≡ allowed_entry xs m
entry_allowed xs m x conflicts prereqs is cs ps free =
    let same : x ≡ entry_of m = is ∙ (ap (λ (c : List Text). entry_with m c prereqs) cs ∙ ap (λ (p : List (List Text)). entry_with m (conflict_names m.records) p) ps) in
    ap Ok same ∙ sym (ap (λ (o : Option RequestReason). unless o (Ok (entry_of m))) (allowed (load_objection m.name m.records xs) free))

-- what forbids the entry forbids the module
pub join_forbidden : {A : Type 0} (o : Option RequestReason) (y : Entry) (z : Result A RequestReason) (r : RequestReason) → Err r ≡ unless o (Ok y) → Err r ≡ unless o z
join_forbidden None y z r h = absurd (cc)
join_forbidden (Some s) y z r h = let q : r ≡ s = cc in ap Err q

same_entry : (o : Option RequestReason) (x y : Entry) → Ok x ≡ unless o (Ok y) → x ≡ y
same_entry None x y h = cc
same_entry (Some r) x y h = absurd (cc)

unforbidden : (o : Option RequestReason) (x y : Entry) → Ok x ≡ unless o (Ok y) → o ≡ None
unforbidden None x y h = refl
unforbidden (Some r) x y h = absurd (cc)

-- what the edit comes to is what the module comes to
pub join_made : (e : Environment) (xs : List Entry) (m : Module) (x : Entry) (out : Result Environment EnvReason) → AreEntriesOf xs e → Ok x ≡ allowed_entry xs m → added_to e x (Some xs) ≡ out
    → refused_as refused_edit (edit_outcome out) ≡ added xs m e
join_made e xs m x out h free made =
    let objected = load_objection m.name m.records xs in
    let same : x ≡ entry_of m = same_entry objected x (entry_of m) free in
    let so : added_loaded e (entry_of m) ≡ out = ap (λ (y : Entry). added_loaded e y) (sym same) ∙ (ap (λ (o : Option (List Entry)). added_to e x o) (read_as xs e h) ∙ made) in
    sym (ap (λ (o : Option RequestReason). unless o (refused_as refused_edit (edit_outcome (added_loaded e (entry_of m))))) (unforbidden objected x (entry_of m) free)
    ∙ ap (λ z. refused_as refused_edit (edit_outcome z)) so)
