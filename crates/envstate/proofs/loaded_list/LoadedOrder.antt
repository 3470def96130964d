-- Edits leave the loaded list in order.
use Rattle.std.proofs.Common.{◌≡◌, Bool, true, false, cond, List, [], ◌∷◌, ◌++◌, refl, sym, ap, ◌∙◌, subst, Option}
use Rattle.std.proofs.Common.{Some, None, Result, Ok, Err, IsTrue}
use Rattle.std.specs.Prelude.{bytes_eq, if◌then◌else◌}
use Rattle.std.specs.List.{list_all}
use Rattle.envvars.specs.Texts.{Text, has}
use Rattle.envvars.specs.Environment.{Environment, lookup, with_value}
use Rattle.envstate.specs.loaded_list.LoadedTexts.{names_variable, files_variable, conflicts_variable, prereqs_variable}
use Rattle.envstate.specs.loaded_list.Loaded.{Entry, names_of, names_text, files_text, conflicts_text, prereqs_text, loaded_in}
use Rattle.envstate.specs.loaded_list.Loaded.{loaded_changes, with_loaded, IsLoadedList, AreLoadedInOrder, can_be_added}
use Rattle.envstate.specs.loaded_list.Loaded.{with_conflicts_once, added_to, added_loaded, without_entry, dropped_from}
use Rattle.envstate.specs.loaded_list.Loaded.{dropped_loaded}
use Rattle.envvars.specs.Changes.{NewValue, same_value, applied}
use Rattle.envvars.specs.Reasons.{EnvReason, inconsistent}
use Rattle.envvars.proofs.EnvLemmas.{lookup-with_value, same_environment, with_value-same}
use Rattle.envvars.proofs.ChangeLemmas.{same_value_is}
use Rattle.envvars.proofs.EditLemmas.{both_true, and_both}
use Rattle.envstate.proofs.loaded_list.LoadedReadable.{loaded_readable}
use Rattle.envstate.proofs.loaded_list.LoadedEdits.{list_push, list_less}
use Rattle.envstate.proofs.loaded_list.LoadedAgain.{at_names, at_files, at_conflicts, at_prereqs, loaded_again}

-- a list that is written twice is written once
abbrev chosen : (a b c d : Bool) (p q r s o : Option Text) → Option Text
chosen a b c d p q r s o = cond a p (cond b q (cond c r (cond d s o)))

chosen_twice : (a b c d : Bool) (p q r s o : Option Text) → chosen a b c d p q r s (chosen a b c d p q r s o) ≡ chosen a b c d p q r s o
chosen_twice true b c d p q r s o = refl
chosen_twice false true c d p q r s o = refl
chosen_twice false false true d p q r s o = refl
chosen_twice false false false true p q r s o = refl
chosen_twice false false false false p q r s o = refl

looked : (e : Environment) (xs : List Entry) (n : Text)
    → lookup (with_loaded e xs) n ≡ chosen (bytes_eq n prereqs_variable) (bytes_eq n conflicts_variable)
    (bytes_eq n files_variable) (bytes_eq n names_variable) (prereqs_text xs) (conflicts_text xs) (files_text xs)
    (names_text xs) (lookup e n)
looked e xs n =
    let named = with_value e names_variable (names_text xs) in
    let filed = with_value named files_variable (files_text xs) in
    let opposed = with_value filed conflicts_variable (conflicts_text xs) in
    lookup-with_value opposed prereqs_variable (prereqs_text xs) n
    ∙ ap (cond (bytes_eq n prereqs_variable) (prereqs_text xs))
    (lookup-with_value filed conflicts_variable (conflicts_text xs) n
    ∙ ap (cond (bytes_eq n conflicts_variable) (conflicts_text xs))
    (lookup-with_value named files_variable (files_text xs) n
    ∙ ap (cond (bytes_eq n files_variable) (files_text xs)) (lookup-with_value e names_variable (names_text xs) n)))

written_twice : (e : Environment) (xs : List Entry) → with_loaded (with_loaded e xs) xs ≡ with_loaded e xs
written_twice e xs = same_environment _ _ (λ n.
    looked (with_loaded e xs) xs n
    ∙ ap (chosen (bytes_eq n prereqs_variable) (bytes_eq n conflicts_variable) (bytes_eq n files_variable)
    (bytes_eq n names_variable) (prereqs_text xs) (conflicts_text xs) (files_text xs) (names_text xs))
    (looked e xs n)
    ∙ chosen_twice (bytes_eq n prereqs_variable) (bytes_eq n conflicts_variable) (bytes_eq n files_variable)
    (bytes_eq n names_variable) (prereqs_text xs) (conflicts_text xs) (files_text xs) (names_text xs) (lookup e n)
    ∙ sym (looked e xs n))

in_order : (e new : Environment) (xs : List Entry) → IsLoadedList xs → new ≡ with_loaded e xs → AreLoadedInOrder new
in_order e new xs l h = record { entries = xs; list = l; written = ap (λ (d : Environment). with_loaded d xs) h ∙ written_twice e xs ∙ sym h }

-- after an accepted edit
added_new : (b : Bool) (e new next : Environment) → (if b then Ok next else Err inconsistent) ≡ (let r : Result Environment EnvReason = Ok new in r) → (b ≡ true) × (new ≡ next)
added_new true e new next h = (refl, cc)
added_new false e new next h = cc

pub add_in_order : (old new : Environment) (x : Entry) → added_loaded old x ≡ Ok new → AreLoadedInOrder new
add_in_order old new x h = at (loaded_in old) refl
  where
    at : (o : Option (List Entry)) → loaded_in old ≡ o → AreLoadedInOrder new
    at None e = let k : added_to old x None ≡ Ok new = sym (ap (added_to old x) e) ∙ h in cc
    at (Some xs) e =
        let k = added_new (can_be_added xs x) old new (with_loaded old (xs ++ with_conflicts_once x ∷ [])) (sym (ap (added_to old x) e) ∙ h) in
        in_order old new (xs ++ with_conflicts_once x ∷ []) (list_push xs x (loaded_readable old xs e) k.0) k.1

dropped_new : (b : Bool) (e new next : Environment) → (if b then Ok next else Ok e) ≡ (let r : Result Environment EnvReason = Ok new in r) → new ≡ cond b next e
dropped_new true e new next h = cc
dropped_new false e new next h = cc

pub drop_in_order : (old new : Environment) (name : Text) (xs : List Entry) → loaded_in old ≡ Some xs → has name (names_of xs) ≡ true → dropped_loaded old name ≡ Ok new → AreLoadedInOrder new
drop_in_order old new name xs e t h =
    let k = dropped_new (has name (names_of xs)) old new (with_loaded old (without_entry name xs)) (sym (ap (dropped_from old name) e) ∙ h) in
    in_order old new (without_entry name xs) (list_less name xs (loaded_readable old xs e)) (k ∙ ap (λ (b : Bool). cond b (with_loaded old (without_entry name xs)) old) t)

pub drop_keeps_order : (old new : Environment) (name : Text) → AreLoadedInOrder old → dropped_loaded old name ≡ Ok new → AreLoadedInOrder new
drop_keeps_order old new name o h = at (loaded_in old) refl
  where
    at_list : (xs : List Entry) → loaded_in old ≡ Some xs → (b : Bool) → has name (names_of xs) ≡ b → AreLoadedInOrder new
    at_list xs e true t = drop_in_order old new name xs e t h
    at_list xs e false t =
        let k = dropped_new (has name (names_of xs)) old new (with_loaded old (without_entry name xs)) (sym (ap (dropped_from old name) e) ∙ h) in
        subst AreLoadedInOrder (sym (k ∙ ap (λ (b : Bool). cond b (with_loaded old (without_entry name xs)) old) t)) o

    at : (o : Option (List Entry)) → loaded_in old ≡ o → AreLoadedInOrder new
    at None e = let k : dropped_from old name None ≡ Ok new = sym (ap (dropped_from old name) e) ∙ h in cc
    at (Some xs) e = at_list xs e (has name (names_of xs)) refl

-- the list that is read is in order exactly where writing it changes nothing

made_already : (cs : List NewValue) (e : Environment) → list_all (λ c. same_value (lookup e c.0) c.1) cs ≡ true → applied cs e ≡ e
made_already [] e h = refl
made_already (c ∷ cs) e h =
    let b = both_true (same_value (lookup e c.0) c.1) (list_all (λ (d : NewValue). same_value (lookup e d.0) d.1) cs) h in
    let same : with_value e c.0 c.1 ≡ e = ap (with_value e c.0) (sym ((same_value_is _ (lookup e c.0) c.1 refl).0 b.0)) ∙ with_value-same e c.0 in
    ap (applied cs) same ∙ made_already cs e b.1

made_next : (e : Environment) (c : NewValue) (cs : List NewValue) → lookup e c.0 ≡ c.1
    → list_all (λ d. same_value (lookup e d.0) d.1) cs ≡ true
    → list_all (λ d. same_value (lookup e d.0) d.1) (c ∷ cs) ≡ true
made_next e c cs h k = and_both (same_value (lookup e c.0) c.1) (list_all (λ (d : NewValue). same_value (lookup e d.0) d.1) cs) ((same_value_is _ (lookup e c.0) c.1 refl).1 h) k

all_made : (e : Environment) (xs : List Entry) → with_loaded e xs ≡ e → list_all (λ c. same_value (lookup e c.0) c.1) (loaded_changes xs) ≡ true
all_made e xs w =
    let at : (name : Text) (t : Option Text) → lookup (with_loaded e xs) name ≡ t → lookup e name ≡ t = λ name t h. ap (λ (d : Environment). lookup d name) (sym w) ∙ h in
    let p : NewValue = (prereqs_variable, prereqs_text xs) in
    let c : NewValue = (conflicts_variable, conflicts_text xs) in
    let f : NewValue = (files_variable, files_text xs) in
    made_next e (names_variable, names_text xs) (f ∷ c ∷ p ∷ []) (at names_variable (names_text xs) (at_names e xs))
    (made_next e f (c ∷ p ∷ []) (at files_variable (files_text xs) (at_files e xs))
    (made_next e c (p ∷ []) (at conflicts_variable (conflicts_text xs) (at_conflicts e xs)) (made_next e p [] (at prereqs_variable (prereqs_text xs) (at_prereqs e xs)) refl)))

pub order_is_read : (e : Environment) (o : AreLoadedInOrder e) → loaded_in e ≡ Some o.entries
order_is_read e o = ap loaded_in (sym o.written) ∙ loaded_again e o.entries o.list

same_list : (o : Option (List Entry)) (xs ys : List Entry) → o ≡ Some xs → o ≡ Some ys → xs ≡ ys
same_list o xs ys h k = cc

pub order_decided : (e : Environment) (xs : List Entry) (b : Bool) → loaded_in e ≡ Some xs → b ≡ list_all (λ c. same_value (lookup e c.0) c.1) (loaded_changes xs)
    → (IsTrue b → AreLoadedInOrder e) × (AreLoadedInOrder e → IsTrue b)
order_decided e xs b h test = (
  λ t. record { entries = xs; list = loaded_readable e xs h; written = made_already (loaded_changes xs) e (sym test ∙ t) },
  λ o. test ∙ all_made e xs (subst (λ (ys : List Entry). with_loaded e ys ≡ e) (same_list (loaded_in e) o.entries xs (order_is_read e o) h) o.written),
)

pub unread_unordered : (e : Environment) → loaded_in e ≡ None → (IsTrue false → AreLoadedInOrder e) × (AreLoadedInOrder e → IsTrue false)
unread_unordered e h = (λ t. cc, λ o. let g : (let p : Option (List Entry) = None in p) ≡ Some o.entries = sym h ∙ order_is_read e o in cc)
