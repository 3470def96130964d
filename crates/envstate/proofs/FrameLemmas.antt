-- What edits leave.
use Rattle.std.proofs.Common.{◌≡◌, ℕ, Bool, true, false, cond, ◌||◌, List, [], ◌∷◌, ◌++◌, refl, sym, ap, ◌∙◌, subst}
use Rattle.std.proofs.Common.{Option, Some, None, Result, Ok, Err, inl, inr}
use Rattle.std.specs.Prelude.{bytes_eq, if◌then◌else◌}
use Rattle.std.specs.Option.{option_or}
use Rattle.std.proofs.lemmas.Bool.{false≢true}
use Rattle.envvars.specs.Texts.{Text, has}
use Rattle.envvars.specs.Names.{share_name, stack_name, name_reason}
use Rattle.envvars.specs.Environment.{Environment, lookup, with_value}
use Rattle.envvars.specs.Reasons.{EnvReason, unless}
use Rattle.envvars.proofs.TextLemmas.{same_text, bytes_eq-same, or_left, or_right}
use Rattle.envvars.proofs.EnvLemmas.{same_environment, lookup-with_value}
use Rattle.envstate.specs.paths.PathTexts.{state_of, elements_text, counters_as_text}
use Rattle.envstate.specs.paths.PathVariables.{path_in, value_reason, added_path, dropped_path, with_path, written_path}
use Rattle.envstate.specs.paths.PathOrder.{IsPathInOrder}
use Rattle.envstate.specs.paths.Paths.{add_all, drop_all}
use Rattle.envstate.specs.declared.paths.adding.End.{End}
use Rattle.envstate.proofs.paths.PathOrderLemmas.{LeavesPath-added, LeavesPath-dropped}
use Rattle.envstate.specs.stacks.StackTexts.{items_in}
use Rattle.envstate.specs.stacks.StackVariables.{stack_in, stack_from, pushed_on, popped_from, pushed_value, popped_value}
use Rattle.envstate.specs.stacks.StackVariables.{IsStackInOrder}
use Rattle.envstate.proofs.stacks.StackAfter.{others_after_push, others_after_pop}
use Rattle.envstate.specs.loaded_list.LoadedTexts.{names_variable, files_variable, conflicts_variable, prereqs_variable}
use Rattle.envstate.specs.loaded_list.Loaded.{Entry, names_of, entries_in, names_text, files_text, conflicts_text, prereqs_text}
use Rattle.envstate.specs.loaded_list.Loaded.{loaded_in, with_loaded, AreLoadedInOrder, can_be_added, with_conflicts_once}
use Rattle.envstate.specs.loaded_list.Loaded.{without_entry, added_to, dropped_from, added_loaded, dropped_loaded}
use Rattle.envstate.proofs.loaded_list.LoadedAgain.{at_names, at_files, at_conflicts, at_prereqs}
use Rattle.envstate.proofs.loaded_list.LoadedEdits.{others_stay}
use Rattle.envstate.specs.Roles.{VariableRole, role_of, is_editable}
use Rattle.envstate.specs.Roles.VariableRole.{Variable, Counters, Stack, LoadedNames, LoadedFiles, LoadedConflicts}
use Rattle.envstate.specs.Roles.VariableRole.{LoadedPrereqs, Other}
use Rattle.envstate.specs.Frames.{OnlyAmong, path_names, stack_names, loaded_names, EditsPath, EditsStack}
use Rattle.envstate.specs.Frames.{EditsVariable, IsVariableUnchanged, AreLoadedUnchanged}
use Rattle.envstate.proofs.RoleLemmas.{different, variable_place, counters_place, stack_place, no_reason_against}

-- no name of the list

none_two : (a b : Bool) → a ≡ false → b ≡ false → (a || (b || false)) ≡ false
none_two a b h k = rw (h, k) refl

none_three : (a b c : Bool) → a ≡ false → b ≡ false → c ≡ false → (a || (b || (c || false))) ≡ false
none_three a b c h k l = rw (h, k, l) refl

none_four : (a b c d : Bool) → a ≡ false → b ≡ false → c ≡ false → d ≡ false → (a || (b || (c || (d || false)))) ≡ false
none_four a b c d h k l m = rw (h, k, l, m) refl

-- accepted edits

no_reason : (o : Option EnvReason) (r : Result Environment EnvReason) (new : Environment) → unless o r ≡ Ok new → o ≡ None
no_reason None r new h = refl
no_reason (Some x) r new h = cc

first_none : (o p : Option EnvReason) → option_or o p ≡ None → o ≡ None
first_none None p h = refl
first_none (Some x) p h = cc

editable_from : (name : Text) (p : Option EnvReason) (r : Result Environment EnvReason) (new : Environment) → unless (option_or (name_reason name) p) r ≡ Ok new → is_editable name ≡ true
editable_from name p r new h = (no_reason_against name).1 (first_none (name_reason name) p (no_reason (option_or (name_reason name) p) r new h))

path_only : (old new : Environment) (name : Text) → ((q : Text) → bytes_eq q name ≡ false → bytes_eq q (share_name name) ≡ false → lookup new q ≡ lookup old q) → OnlyAmong old new (path_names name)
path_only old new name h = λ q e. h q (or_left (bytes_eq q name) _ e) (or_left (bytes_eq q (share_name name)) false (or_right (bytes_eq q name) _ e))

stack_only : (old new : Environment) (name : Text) → ((q : Text) → bytes_eq q name ≡ false → bytes_eq q (stack_name name) ≡ false → lookup new q ≡ lookup old q) → OnlyAmong old new (stack_names name)
stack_only old new name h = λ q e. h q (or_left (bytes_eq q name) _ e) (or_left (bytes_eq q (stack_name name)) false (or_right (bytes_eq q name) _ e))

pub add_edits : (old new : Environment) (name : Text) (delim : ℕ) (xs : List Text) (end : End) → added_path old name delim xs end ≡ Ok new → EditsPath old new name
add_edits old new name delim xs end h = record {
  editable = editable_from name (value_reason name delim xs) (written_path old name delim (add_all (path_in old name delim) xs end)) new h;
  only = path_only old new name (LeavesPath-added old new name delim xs end h).others;
}

pub drop_edits : (old new : Environment) (name : Text) (delim : ℕ) (xs : List Text) → dropped_path old name delim xs ≡ Ok new → EditsPath old new name
drop_edits old new name delim xs h = record {
  editable = editable_from name (value_reason name delim xs) (Ok (with_path old name delim (drop_all (path_in old name delim) xs))) new h;
  only = path_only old new name (LeavesPath-dropped old new name delim xs h).others;
}

pub push_edits : (old new : Environment) (name owner value : Text) → pushed_value old name owner value ≡ Ok new → EditsStack old new name
push_edits old new name owner value h = record {
  editable = editable_from name _ (pushed_on old name owner value (stack_in old name)) new h;
  only = stack_only old new name (others_after_push old new name owner value h);
}

pub pop_edits : (old new : Environment) (name owner : Text) → popped_value old name owner ≡ Ok new → EditsStack old new name
pop_edits old new name owner h = record {
  editable = editable_from name _ (popped_from old name owner (stack_in old name)) new h;
  only = stack_only old new name (others_after_pop old new name owner h);
}

set_other : (e : Environment) (name : Text) (value : Option Text) (q : Text) → bytes_eq q name ≡ false → lookup (with_value e name value) q ≡ lookup e q
set_other e name value q h = lookup-with_value e name value q ∙ ap (λ (b : Bool). cond b value (lookup e q)) h

pub set_edits : (e : Environment) (name : Text) (value : Option Text) → is_editable name ≡ true → EditsPath e (with_value e name value) name × EditsStack e (with_value e name value) name
set_edits e name value h = (
  record { editable = h; only = path_only e (with_value e name value) name (λ q a b. set_other e name value q a) },
  record { editable = h; only = stack_only e (with_value e name value) name (λ q a b. set_other e name value q a) },
)

loaded_only : (e : Environment) (xs : List Entry) → OnlyAmong e (with_loaded e xs) loaded_names
loaded_only e xs = λ q h.
    let a = or_right (bytes_eq q names_variable) _ h in
    let b = or_right (bytes_eq q files_variable) _ a in
    others_stay e xs q (or_left (bytes_eq q names_variable) _ h) (or_left (bytes_eq q files_variable) _ a) (or_left (bytes_eq q conflicts_variable) _ b)
    (or_left (bytes_eq q prereqs_variable) false (or_right (bytes_eq q conflicts_variable) _ b))

abbrev pub accepted : Environment → Result Environment EnvReason
accepted e = Ok e

only_new : (e d new : Environment) → OnlyAmong e d loaded_names → accepted d ≡ Ok new → OnlyAmong e new loaded_names
only_new e d new h k = let same : d ≡ new = cc in subst (λ (f : Environment). OnlyAmong e f loaded_names) same h

add_at : (old new : Environment) (x : Entry) (xs : List Entry) (b : Bool) (r : EnvReason)
    → (if b then Ok (with_loaded old (xs ++ with_conflicts_once x ∷ [])) else Err r) ≡ Ok new
    → OnlyAmong old new loaded_names
add_at old new x xs true r h = only_new old _ new (loaded_only old (xs ++ with_conflicts_once x ∷ [])) h
add_at old new x xs false r h = cc

add_from : (old new : Environment) (x : Entry) (o : Option (List Entry)) → added_to old x o ≡ Ok new → OnlyAmong old new loaded_names
add_from old new x None h = cc
add_from old new x (Some xs) h = add_at old new x xs (can_be_added xs x) _ h

pub add_edits_loaded : (old new : Environment) (x : Entry) → added_loaded old x ≡ Ok new → OnlyAmong old new loaded_names
add_edits_loaded old new x h = add_from old new x (loaded_in old) h

drop_at : (old new : Environment) (name : Text) (xs : List Entry) (b : Bool) → (if b then accepted (with_loaded old (without_entry name xs)) else Ok old) ≡ Ok new → OnlyAmong old new loaded_names
drop_at old new name xs true h = only_new old _ new (loaded_only old (without_entry name xs)) h
drop_at old new name xs false h = only_new old old new (λ q e. refl) h

drop_from : (old new : Environment) (name : Text) (o : Option (List Entry)) → dropped_from old name o ≡ Ok new → OnlyAmong old new loaded_names
drop_from old new name None h = cc
drop_from old new name (Some xs) h = drop_at old new name xs (has name (names_of xs)) h

pub drop_edits_loaded : (old new : Environment) (name : Text) → dropped_loaded old name ≡ Ok new → OnlyAmong old new loaded_names
drop_edits_loaded old new name h = drop_from old new name (loaded_in old) h

-- an edit of a path or of a stack is one of the variable

three_two : (a b c : Bool) → (a || (b || (c || false))) ≡ false → (a || (b || false)) ≡ false
three_two false false c h = refl
three_two false true c h = h
three_two true b c h = h

three_last : (a b c : Bool) → (a || (b || (c || false))) ≡ false → (a || (c || false)) ≡ false
three_last false false c h = h
three_last false true c h = absurd (false≢true (sym h))
three_last true b c h = h

pub path_edits_variable : (old new : Environment) (name : Text) → EditsPath old new name → EditsVariable old new name × (lookup new (stack_name name) ≡ lookup old (stack_name name))
path_edits_variable old new name h = (
  record { editable = h.editable; only = λ q e. h.only q (three_two (bytes_eq q name) (bytes_eq q (share_name name)) (bytes_eq q (stack_name name)) e) },
  h.only (stack_name name) (none_two (bytes_eq (stack_name name) name) (bytes_eq (stack_name name) (share_name name))
      (different (stack_name name) name (Stack name) (Variable name) (stack_place name h.editable) (variable_place name h.editable) (λ e. cc))
      (different (stack_name name) (share_name name) (Stack name) (Counters name) (stack_place name h.editable) (counters_place name h.editable) (λ e. cc))),
)

pub stack_edits_variable : (old new : Environment) (name : Text) → EditsStack old new name → EditsVariable old new name × (lookup new (share_name name) ≡ lookup old (share_name name))
stack_edits_variable old new name h = (
  record { editable = h.editable; only = λ q e. h.only q (three_last (bytes_eq q name) (bytes_eq q (share_name name)) (bytes_eq q (stack_name name)) e) },
  h.only (share_name name) (none_two (bytes_eq (share_name name) name) (bytes_eq (share_name name) (stack_name name))
      (different (share_name name) name (Counters name) (Variable name) (counters_place name h.editable) (variable_place name h.editable) (λ e. cc))
      (different (share_name name) (stack_name name) (Counters name) (Stack name) (counters_place name h.editable) (stack_place name h.editable) (λ e. cc))),
)

-- what the same texts keep

order_kept : (old new : Environment) (name : Text) (delim : ℕ) → lookup new name ≡ lookup old name → lookup new (share_name name) ≡ lookup old (share_name name)
    → path_in new name delim ≡ path_in old name delim → IsPathInOrder old name delim → IsPathInOrder new name delim
order_kept old new name delim a b s o = record {
  elements = a ∙ o.elements ∙ ap (λ t. elements_text delim t.elements) (sym s);
  counters = b ∙ o.counters ∙ ap counters_as_text (sym s);
}

stack_kept : (loaded : List Text) (old new : Environment) (name : Text) → lookup new name ≡ lookup old name
    → lookup new (stack_name name) ≡ lookup old (stack_name name) → IsStackInOrder loaded old name
    → IsStackInOrder loaded new name
stack_kept loaded old new name a b (inl h) = inl (b ∙ h)
stack_kept loaded old new name a b (inr h) = inr (record { items = h.items; valid = h.valid; owned = h.owned; owners = h.owners; text = b ∙ h.text; value = a ∙ h.value })

pub keeps : (old new : Environment) (name : Text) → lookup new name ≡ lookup old name
    → lookup new (share_name name) ≡ lookup old (share_name name)
    → lookup new (stack_name name) ≡ lookup old (stack_name name) → IsVariableUnchanged old new name
keeps old new name a b c = record {
  value = a;
  counters = b;
  stack_text = c;
  path = λ delim. ap (λ t. state_of delim t (lookup new (share_name name))) a ∙ ap (state_of delim (lookup old name)) b;
  path_order = λ delim o. order_kept old new name delim a b (ap (λ t. state_of delim t (lookup new (share_name name))) a ∙ ap (state_of delim (lookup old name)) b) o;
  stack = ap (λ t. stack_from (items_in t) (lookup new name)) c ∙ ap (stack_from (items_in (lookup old (stack_name name)))) a;
  stack_order = λ loaded o. stack_kept loaded old new name a c o;
}

-- every other variable

pub keeps_other : (old new : Environment) (name other : Text) → EditsVariable old new name → is_editable other ≡ true → bytes_eq other name ≡ false → IsVariableUnchanged old new other
keeps_other old new name other h o d =
    let two : Variable other ≡ Variable name → ⊥ = λ e. false≢true (sym d ∙ (let s : other ≡ name = cc in ap (λ (t : Text). bytes_eq t name) s ∙ bytes_eq-same name)) in
    let counters : Counters other ≡ Counters name → ⊥ = λ e. false≢true (sym d ∙ (let s : other ≡ name = cc in ap (λ (t : Text). bytes_eq t name) s ∙ bytes_eq-same name)) in
    let stacks : Stack other ≡ Stack name → ⊥ = λ e. false≢true (sym d ∙ (let s : other ≡ name = cc in ap (λ (t : Text). bytes_eq t name) s ∙ bytes_eq-same name)) in
    keeps old new other
    (h.only other (none_three (bytes_eq other name) (bytes_eq other (share_name name)) (bytes_eq other (stack_name name)) d
    (different other (share_name name) _ _ (variable_place other o) (counters_place name h.editable) (λ e. cc))
    (different other (stack_name name) _ _ (variable_place other o) (stack_place name h.editable) (λ e. cc))))
    (h.only (share_name other) (none_three (bytes_eq (share_name other) name) (bytes_eq (share_name other) (share_name name)) (bytes_eq (share_name other) (stack_name name))
    (different (share_name other) name _ _ (counters_place other o) (variable_place name h.editable) (λ e. cc))
    (different (share_name other) (share_name name) _ _ (counters_place other o) (counters_place name h.editable) counters)
    (different (share_name other) (stack_name name) _ _ (counters_place other o) (stack_place name h.editable) (λ e. cc))))
    (h.only (stack_name other) (none_three (bytes_eq (stack_name other) name) (bytes_eq (stack_name other) (share_name name)) (bytes_eq (stack_name other) (stack_name name))
    (different (stack_name other) name _ _ (stack_place other o) (variable_place name h.editable) (λ e. cc))
    (different (stack_name other) (share_name name) _ _ (stack_place other o) (counters_place name h.editable) (λ e. cc))
    (different (stack_name other) (stack_name name) _ _ (stack_place other o) (stack_place name h.editable) stacks)))

-- a name of another kind than those of a variable
foreign : (old new : Environment) (name q : Text) (p : VariableRole) → EditsVariable old new name → role_of q ≡ p
    → (p ≡ Variable name → ⊥) → (p ≡ Counters name → ⊥) → (p ≡ Stack name → ⊥) → lookup new q ≡ lookup old q
foreign old new name q p h e a b c =
    h.only q (none_three (bytes_eq q name) (bytes_eq q (share_name name)) (bytes_eq q (stack_name name))
    (different q name p _ e (variable_place name h.editable) a)
    (different q (share_name name) p _ e (counters_place name h.editable) b)
    (different q (stack_name name) p _ e (stack_place name h.editable) c))

pub rest_stays : (old new : Environment) (name other : Text) → EditsVariable old new name → role_of other ≡ Other → lookup new other ≡ lookup old other
rest_stays old new name other h e = foreign old new name other Other h e (λ k. cc) (λ k. cc) (λ k. cc)

-- the four texts

pub record AreTexts (e : Environment) (xs : List Entry) : Type 0 where
  pub names : lookup e names_variable ≡ names_text xs
  pub files : lookup e files_variable ≡ files_text xs
  pub conflicts : lookup e conflicts_variable ≡ conflicts_text xs
  pub prereqs : lookup e prereqs_variable ≡ prereqs_text xs

pub texts_of : (e : Environment) (xs : List Entry) → with_loaded e xs ≡ e → AreTexts e xs
texts_of e xs h = record {
  names = ap (λ (d : Environment). lookup d names_variable) (sym h) ∙ at_names e xs;
  files = ap (λ (d : Environment). lookup d files_variable) (sym h) ∙ at_files e xs;
  conflicts = ap (λ (d : Environment). lookup d conflicts_variable) (sym h) ∙ at_conflicts e xs;
  prereqs = ap (λ (d : Environment). lookup d prereqs_variable) (sym h) ∙ at_prereqs e xs;
}

-- a value that the variable has already
has_it : (e : Environment) (name : Text) (value : Option Text) → lookup e name ≡ value → with_value e name value ≡ e
has_it e name value h = same_environment _ _ (λ q. lookup-with_value e name value q ∙ at q (bytes_eq q name) refl)
  where
    at : (q : Text) (b : Bool) → bytes_eq q name ≡ b → cond b value (lookup e q) ≡ lookup e q
    at q true k = sym h ∙ ap (lookup e) (sym (same_text q name k))
    at q false k = refl

pub texts_written : (e : Environment) (xs : List Entry) → AreTexts e xs → with_loaded e xs ≡ e
texts_written e xs t =
    let a : with_value e names_variable (names_text xs) ≡ e = has_it e names_variable (names_text xs) t.names in
    let b : with_value e files_variable (files_text xs) ≡ e = has_it e files_variable (files_text xs) t.files in
    let c : with_value e conflicts_variable (conflicts_text xs) ≡ e = has_it e conflicts_variable (conflicts_text xs) t.conflicts in
    let d : with_value e prereqs_variable (prereqs_text xs) ≡ e = has_it e prereqs_variable (prereqs_text xs) t.prereqs in
    ap (λ (f : Environment). with_value (with_value (with_value f files_variable (files_text xs)) conflicts_variable (conflicts_text xs)) prereqs_variable (prereqs_text xs)) a
    ∙ ap (λ (f : Environment). with_value (with_value f conflicts_variable (conflicts_text xs)) prereqs_variable (prereqs_text xs)) b
    ∙ ap (λ (f : Environment). with_value f prereqs_variable (prereqs_text xs)) c ∙ d

list_order : (old new : Environment) → lookup new names_variable ≡ lookup old names_variable
    → lookup new files_variable ≡ lookup old files_variable
    → lookup new conflicts_variable ≡ lookup old conflicts_variable
    → lookup new prereqs_variable ≡ lookup old prereqs_variable
    → AreLoadedInOrder old → AreLoadedInOrder new
list_order old new a b c d o =
    let t = texts_of old o.entries o.written in
    record { entries = o.entries; list = o.list; written = texts_written new o.entries (record { names = a ∙ t.names; files = b ∙ t.files; conflicts = c ∙ t.conflicts; prereqs = d ∙ t.prereqs }) }

pub keeps_list : (old new : Environment) → lookup new names_variable ≡ lookup old names_variable
    → lookup new files_variable ≡ lookup old files_variable
    → lookup new conflicts_variable ≡ lookup old conflicts_variable
    → lookup new prereqs_variable ≡ lookup old prereqs_variable
    → AreLoadedUnchanged old new
keeps_list old new a b c d = record {
  list = ap (λ t. entries_in t (lookup new files_variable) (lookup new conflicts_variable) (lookup new prereqs_variable)) a
      ∙ ap (λ t. entries_in (lookup old names_variable) t (lookup new conflicts_variable) (lookup new prereqs_variable)) b
      ∙ ap (λ t. entries_in (lookup old names_variable) (lookup old files_variable) t (lookup new prereqs_variable)) c
      ∙ ap (entries_in (lookup old names_variable) (lookup old files_variable) (lookup old conflicts_variable)) d;
  order = list_order old new a b c d;
}

pub keeps_loaded : (old new : Environment) (name : Text) → EditsVariable old new name → AreLoadedUnchanged old new
keeps_loaded old new name h =
    keeps_list old new
    (foreign old new name names_variable LoadedNames h refl (λ k. cc) (λ k. cc) (λ k. cc))
    (foreign old new name files_variable LoadedFiles h refl (λ k. cc) (λ k. cc) (λ k. cc))
    (foreign old new name conflicts_variable LoadedConflicts h refl (λ k. cc) (λ k. cc) (λ k. cc))
    (foreign old new name prereqs_variable LoadedPrereqs h refl (λ k. cc) (λ k. cc) (λ k. cc))

-- a name that is none of the four
unlisted : (old new : Environment) (q : Text) (p : VariableRole) → OnlyAmong old new loaded_names → role_of q ≡ p
    → (p ≡ LoadedNames → ⊥) → (p ≡ LoadedFiles → ⊥) → (p ≡ LoadedConflicts → ⊥) → (p ≡ LoadedPrereqs → ⊥)
    → lookup new q ≡ lookup old q
unlisted old new q p h e a b c d =
    h q (none_four (bytes_eq q names_variable) (bytes_eq q files_variable) (bytes_eq q conflicts_variable) (bytes_eq q prereqs_variable)
    (different q names_variable p _ e refl a) (different q files_variable p _ e refl b) (different q conflicts_variable p _ e refl c) (different q prereqs_variable p _ e refl d))

pub loaded_keeps : (old new : Environment) (name : Text) → OnlyAmong old new loaded_names → is_editable name ≡ true → IsVariableUnchanged old new name
loaded_keeps old new name h e =
    keeps old new name
    (unlisted old new name _ h (variable_place name e) (λ k. cc) (λ k. cc) (λ k. cc) (λ k. cc))
    (unlisted old new (share_name name) _ h (counters_place name e) (λ k. cc) (λ k. cc) (λ k. cc) (λ k. cc))
    (unlisted old new (stack_name name) _ h (stack_place name e) (λ k. cc) (λ k. cc) (λ k. cc) (λ k. cc))

pub loaded_rest_stays : (old new : Environment) (other : Text) → OnlyAmong old new loaded_names → role_of other ≡ Other → lookup new other ≡ lookup old other
loaded_rest_stays old new other h e = unlisted old new other Other h e (λ k. cc) (λ k. cc) (λ k. cc) (λ k. cc)
