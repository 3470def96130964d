-- States that are in order, and lists.
use Rattle.std.proofs.Common.{◌≡◌, ℕ, Bool, true, false, cond, not, ◌||◌, ◌&&◌, List, [], ◌∷◌, ◌++◌, map, refl, sym, ap}
use Rattle.std.proofs.Common.{◌∙◌, Option, Some, None, Ok, inl, inr}
use Rattle.std.specs.Prelude.{bytes_eq, if◌then◌else◌}
use Rattle.std.specs.List.{list_all}
use Rattle.std.proofs.lemmas.Bool.{false≢true}
use Rattle.std.proofs.lemmas.List.Folds.{list_any-append}
use Rattle.modulename.specs.ModuleName.{is_module_name}
use Rattle.envvars.specs.Texts.{Text, has}
use Rattle.envvars.specs.Fields.{without}
use Rattle.envvars.specs.Names.{stack_name}
use Rattle.envvars.specs.Environment.{Environment, lookup}
use Rattle.envvars.proofs.TextLemmas.{bytes_eq-symmetric, or_left, or_right}
use Rattle.envvars.proofs.EditLemmas.{both_true, passes_each}
use Rattle.envstate.specs.paths.PathTexts.{elements_text, counters_as_text}
use Rattle.envstate.specs.paths.PathVariables.{path_in}
use Rattle.envstate.specs.paths.PathOrder.{IsPathInOrder}
use Rattle.envstate.specs.stacks.Stacks.{OwnedValue, StackState, is_owner, holds, items_or_bottom}
use Rattle.envstate.specs.stacks.StackTexts.{items_in, is_writable_owner, is_writable_stack, stack_text}
use Rattle.envstate.specs.stacks.StackRuns.{items_of, start_with_pushes}
use Rattle.envstate.specs.stacks.StackVariables.{stack_in, stack_from, is_loaded_owner, IsWrittenStack, IsStackInOrder}
use Rattle.envstate.proofs.stacks.StackAgain.{stack_again}
use Rattle.envstate.proofs.stacks.StackAfter.{name_owns}
use Rattle.envstate.specs.loaded_list.Loaded.{Entry, names_of, is_entry, is_path, is_group, names_text, files_text, conflicts_text}
use Rattle.envstate.specs.loaded_list.Loaded.{prereqs_text, loaded_in, with_loaded, AreLoadedInOrder, with_conflicts_once}
use Rattle.envstate.specs.loaded_list.Loaded.{without_entry, dropped_from, dropped_loaded}
use Rattle.envstate.proofs.loaded_list.LoadedAgain.{loaded_again}
use Rattle.envstate.proofs.loaded_list.LoadedEdits.{loaded_after_drop}
use Rattle.envstate.specs.EnvLaws.{IsStartOf, SamePath, SameStack, SameLoaded, AreSound}
use Rattle.envstate.proofs.FrameLemmas.{accepted, texts_of}

-- stacks

loaded_owns : (loaded : List Text) (o : Option Text) → list_all is_module_name loaded ≡ true → is_loaded_owner loaded o ≡ true → is_writable_owner o ≡ true
loaded_owns loaded None n h = refl
loaded_owns loaded (Some owner) n h = name_owns owner (passes_each is_module_name owner loaded n h)

all_own : (loaded : List Text) (items : List OwnedValue) → list_all is_module_name loaded ≡ true
    → list_all (λ item. is_loaded_owner loaded item.0) items ≡ true
    → list_all (λ item. is_writable_owner item.0) items ≡ true
all_own loaded [] n h = refl
all_own loaded (item ∷ items) n h =
    let g = both_true (is_loaded_owner loaded item.0) (list_all (λ i. is_loaded_owner loaded i.0) items) h in
    ap (λ (b : Bool). b && list_all (λ i. is_writable_owner i.0) items) (loaded_owns loaded item.0 n g.0) ∙ all_own loaded items n g.1

writable : (loaded : List Text) (e : Environment) (name : Text) → list_all is_module_name loaded ≡ true → (w : IsWrittenStack loaded e name) → is_writable_stack w.items ≡ true
writable loaded e name n w = rw (w.valid, all_own loaded w.items n w.owners) refl

pub state_of_written : (loaded : List Text) (e : Environment) (name : Text) → list_all is_module_name loaded ≡ true
    → (w : IsWrittenStack loaded e name) → stack_in e name ≡ Some (record { items = w.items; value = lookup e name })
state_of_written loaded e name n w = ap (λ o. stack_from o (lookup e name)) (ap items_in w.text ∙ stack_again w.items (writable loaded e name n w))

none_found : (e : Environment) (name : Text) → lookup e (stack_name name) ≡ None → stack_in e name ≡ Some (record { items = []; value = lookup e name })
none_found e name h = ap (λ t. stack_from (items_in t) (lookup e name)) h

pub start_of : (loaded : List Text) (e : Environment) (name : Text) → list_all is_module_name loaded ≡ true → IsStackInOrder loaded e name → (s : StackState) × IsStartOf loaded e name s
start_of loaded e name n (inl h) = (record { items = []; value = lookup e name }, record { found = none_found e name h; owned = inl refl; owners = refl })
start_of loaded e name n (inr w) = (
  record { items = w.items; value = lookup e name },
  record { found = state_of_written loaded e name n w; owned = inr (w.owned, w.value); owners = w.owners },
)

or_both : (a b : Bool) → a ≡ false → b ≡ false → (a || b) ≡ false
or_both a b h k = rw (h, k) refl

base_absent : (m : Text) (items : List OwnedValue) (value : Option Text) → holds m items ≡ false → holds m (items_or_bottom items value) ≡ false
base_absent m [] None h = refl
base_absent m [] (Some v) h = refl
base_absent m (item ∷ items) value h = h

pushes_absent : (m : Text) (pushes : List (Text × Text)) → has m (map (λ p. p.0) pushes) ≡ false → holds m (items_of pushes) ≡ false
pushes_absent m [] h = refl
pushes_absent m (p ∷ ps) h = or_both (bytes_eq m p.0) (holds m (items_of ps)) (or_left (bytes_eq m p.0) _ h) (pushes_absent m ps (or_right (bytes_eq m p.0) _ h))

pub standing_absent : (start : StackState) (pushes : List (Text × Text)) (m : Text) → holds m start.items ≡ false
    → has m (map (λ p. p.0) pushes) ≡ false → holds m (start_with_pushes start pushes).items ≡ false
standing_absent start [] m h k = h
standing_absent start (p ∷ ps) m h k =
    list_any-append (λ item. is_owner m item.0) (items_of (p ∷ ps)) (items_or_bottom start.items start.value)
    ∙ or_both (holds m (items_of (p ∷ ps))) (holds m (items_or_bottom start.items start.value)) (pushes_absent m (p ∷ ps) k) (base_absent m start.items start.value h)

-- one writing

pub one_path : (d e : Environment) (name : Text) (delim : ℕ) → IsPathInOrder d name delim → IsPathInOrder e name delim → path_in d name delim ≡ path_in e name delim → SamePath d e name
one_path d e name delim a b s = record {
  elements = a.elements ∙ ap (λ t. elements_text delim t.elements) s ∙ sym b.elements;
  counters = a.counters ∙ ap counters_as_text s ∙ sym b.counters;
}

-- the text of a stack in order is that of its state
text_of_state : (loaded : List Text) (e : Environment) (name : Text) (s : StackState) → list_all is_module_name loaded ≡ true → IsStackInOrder loaded e name → stack_in e name ≡ Some s
    → (lookup e name ≡ s.value) × (lookup e (stack_name name) ≡ stack_text s.items)
text_of_state loaded e name s n (inl h) k =
    let same : Some (record { items = []; value = lookup e name }) ≡ Some s = sym (none_found e name h) ∙ k in
    let one : record { items = []; value = lookup e name } ≡ s = same_state _ s same in
    (ap (λ (t : StackState). t.value) one, h ∙ ap (λ (t : StackState). stack_text t.items) one)
  where
    same_state : (x y : StackState) → Some x ≡ Some y → x ≡ y
    same_state x y q = cc
text_of_state loaded e name s n (inr w) k =
    let same : Some (record { items = w.items; value = lookup e name }) ≡ Some s = sym (state_of_written loaded e name n w) ∙ k in
    let one : record { items = w.items; value = lookup e name } ≡ s = same_state _ s same in
    (ap (λ (t : StackState). t.value) one, w.text ∙ ap (λ (t : StackState). stack_text t.items) one)
  where
    same_state : (x y : StackState) → Some x ≡ Some y → x ≡ y
    same_state x y q = cc

pub one_stack : (loaded others : List Text) (d e : Environment) (name : Text) → list_all is_module_name loaded ≡ true
    → list_all is_module_name others ≡ true → IsStackInOrder loaded d name → IsStackInOrder others e name
    → stack_in d name ≡ stack_in e name → SameStack d e name
one_stack loaded others d e name n m a b s =
    let f = start_of loaded d name n a in
    let x = text_of_state loaded d name f.0 n a f.1.found in
    let y = text_of_state others e name f.0 m b (sym s ∙ f.1.found) in
    record { value = x.0 ∙ sym y.0; stack = x.1 ∙ sym y.1 }

read_in_order : (e : Environment) (o : AreLoadedInOrder e) → loaded_in e ≡ Some o.entries
read_in_order e o = ap loaded_in (sym o.written) ∙ loaded_again e o.entries o.list

same_list : (xs ys : List Entry) → Some xs ≡ Some ys → xs ≡ ys
same_list xs ys h = cc

pub one_list : (d e : Environment) → AreLoadedInOrder d → AreLoadedInOrder e → loaded_in d ≡ loaded_in e → SameLoaded d e
one_list d e a b s =
    let one : a.entries ≡ b.entries = same_list a.entries b.entries (sym (read_in_order d a) ∙ s ∙ read_in_order e b) in
    let x = texts_of d a.entries a.written in
    let y = texts_of e b.entries b.written in
    record {
      names = x.names ∙ ap names_text one ∙ sym y.names;
      files = x.files ∙ ap files_text one ∙ sym y.files;
      conflicts = x.conflicts ∙ ap conflicts_text one ∙ sym y.conflicts;
      prereqs = x.prereqs ∙ ap prereqs_text one ∙ sym y.prereqs;
    }

-- lists

pub names_added : (xs : List Entry) (x : Entry) → names_of (xs ++ with_conflicts_once x ∷ []) ≡ names_of xs ++ x.name ∷ []
names_added [] x = refl
names_added (y ∷ ys) x = ap (λ (l : List Text). y.name ∷ l) (names_added ys x)

names_at : (b c : Bool) (x : Entry) (xs : List Entry) (ns : List Text) → b ≡ c → names_of xs ≡ ns → names_of (cond (not b) (x ∷ xs) xs) ≡ cond (not c) (x.name ∷ ns) ns
names_at true true x xs ns e h = h
names_at true false x xs ns e h = absurd (false≢true (sym e))
names_at false true x xs ns e h = absurd (false≢true e)
names_at false false x xs ns e h = ap (λ (l : List Text). x.name ∷ l) h

pub names_dropped : (xs : List Entry) (name : Text) → names_of (without_entry name xs) ≡ without name (names_of xs)
names_dropped [] name = refl
names_dropped (x ∷ xs) name = names_at (bytes_eq name x.name) (bytes_eq x.name name) x (without_entry name xs) (without name (names_of xs)) (bytes_eq-symmetric name x.name) (names_dropped xs name)

all_names : (xs : List Entry) → list_all is_entry xs ≡ true → list_all is_module_name (names_of xs) ≡ true
all_names [] h = refl
all_names (x ∷ xs) h =
    let g = both_true (is_entry x) (list_all is_entry xs) h in
    let a = both_true (is_module_name x.name && is_path x.path) (list_all is_module_name x.conflicts && list_all is_group x.prereqs) g.0 in
    ap (λ (b : Bool). b && list_all is_module_name (names_of xs)) (both_true (is_module_name x.name) (is_path x.path) a.0).0 ∙ all_names xs g.1

all_paths : (xs : List Entry) → list_all is_entry xs ≡ true → list_all (λ x. is_path x.path) xs ≡ true
all_paths [] h = refl
all_paths (x ∷ xs) h =
    let g = both_true (is_entry x) (list_all is_entry xs) h in
    let a = both_true (is_module_name x.name && is_path x.path) (list_all is_module_name x.conflicts && list_all is_group x.prereqs) g.0 in
    ap (λ (b : Bool). b && list_all (λ y. is_path y.path) xs) (both_true (is_module_name x.name) (is_path x.path) a.0).1 ∙ all_paths xs g.1

pub list_in_order : (e : Environment) → AreLoadedInOrder e → (entries : List Entry) × (loaded_in e ≡ Some entries) × AreSound entries
list_in_order e o = (o.entries, read_in_order e o, record { names = all_names o.entries o.list.each; once = o.list.names; paths = all_paths o.entries o.list.each })

kept_all : (name : Text) (xs : List Entry) → has name (names_of xs) ≡ false → without_entry name xs ≡ xs
kept_all name [] h = refl
kept_all name (x ∷ xs) h =
    ap (λ (b : Bool). cond (not b) (x ∷ without_entry name xs) (without_entry name xs)) (or_left (bytes_eq name x.name) _ h)
    ∙ ap (λ (l : List Entry). x ∷ l) (kept_all name xs (or_right (bytes_eq name x.name) _ h))

not_there : (old new : Environment) (name : Text) (xs : List Entry) (b : Bool) → b ≡ false → (if b then accepted (with_loaded old (without_entry name xs)) else Ok old) ≡ Ok new → new ≡ old
not_there old new name xs true e h = absurd (false≢true (sym e))
not_there old new name xs false e h = cc

drop_at : (old new : Environment) (name : Text) (xs : List Entry) (b : Bool) → has name (names_of xs) ≡ b
    → loaded_in old ≡ Some xs → dropped_loaded old name ≡ Ok new → loaded_in new ≡ Some (without_entry name xs)
drop_at old new name xs true e l h = loaded_after_drop old new name xs l e h
drop_at old new name xs false e l h =
    let same : new ≡ old = not_there old new name xs (has name (names_of xs)) e (ap (dropped_from old name) (sym l) ∙ h) in
    ap loaded_in same ∙ l ∙ ap Some (sym (kept_all name xs e))

pub dropped_list : (old new : Environment) (name : Text) (xs : List Entry) → loaded_in old ≡ Some xs → dropped_loaded old name ≡ Ok new → loaded_in new ≡ Some (without_entry name xs)
dropped_list old new name xs l h = drop_at old new name xs (has name (names_of xs)) refl l h
