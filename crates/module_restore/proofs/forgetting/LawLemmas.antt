-- What holds behind a `forget`.
use Rattle.std.proofs.Common.{◌≡◌, inl, inr, Bool, true, false, ◌||◌, List, [], ◌∷◌, refl, sym, ap, ◌∙◌, subst}
use Rattle.std.proofs.Common.{Option, Some, None, Result, Ok, Err}
use Rattle.std.specs.Prelude.{bytes_eq, if◌then◌else◌}
use Rattle.std.specs.List.{list_all}
use Rattle.std.specs.Option.{option_or}
use Rattle.std.proofs.lemmas.Bool.{false≢true}
use Rattle.modulename.specs.ModuleName.{is_module_name}
use Rattle.envvars.specs.Texts.{Text, has}
use Rattle.envvars.specs.Fields.{without}
use Rattle.envvars.specs.Names.{share_name, stack_name}
use Rattle.envvars.specs.Environment.{Environment, lookup}
use Rattle.envvars.specs.Reasons.{EnvReason, bad_value, unless}
use Rattle.envvars.proofs.EditLemmas.{both_true, passes_each}
use Rattle.envvars.proofs.EnvLemmas.{same_environment}
use Rattle.envvars.proofs.TextLemmas.{same_text}
use Rattle.envstate.specs.EnvLaws.{SameLoaded, SameStack}
use Rattle.envstate.specs.Frames.{IsVariableUnchanged}
use Rattle.envstate.specs.Roles.{IsNameOf, VariableRole, is_editable, role_of}
use Rattle.envstate.specs.Roles.VariableRole.{Counters, LoadedConflicts, LoadedFiles, LoadedNames, LoadedPrereqs, Other, Stack, Variable}
use Rattle.envstate.specs.loaded_list.Loaded.{Entry, dropped_loaded, loaded_in, names_of, without_entry}
use Rattle.envstate.specs.stacks.Stacks.{OwnedValue, StackState, holds, pop}
use Rattle.envstate.specs.stacks.StackVariables.{IsStackInOrder, is_loaded_owner, pop_reason, popped_from, popped_value, stack_in, with_stack}
use Rattle.envstate.proofs.FrameLemmas.{accepted, drop_edits_loaded, keeps, keeps_list, loaded_keeps, loaded_rest_stays}
use Rattle.envstate.proofs.RoleLemmas.{name_of_role, no_reason_against}
use Rattle.envstate.proofs.StateLemmas.{dropped_list, list_in_order, names_dropped, start_of}
use Rattle.envstate.proofs.loaded_list.LoadedOrder.{drop_keeps_order}
use Rattle.envstate.proofs.stacks.StackInOrder.{order_of_fewer, pop_in_order}
use Rattle.filetree.specs.Agreement.{Files}
use Rattle.filetree.specs.Relations.{If, Is}
use Rattle.requests.specs.Steps.{last_meant}
use Rattle.reversal.specs.Starts.{IsInOrder}
use Rattle.reversal.specs.VariableUses.{VariableUse}
use Rattle.module_restore.specs.forgetting.Forgets.{ForgetReason, Forgets, ForgetsEach, ForgetsEntry, ForgetsMeant, ForgetsName, Forgetting, IsForgotten, can_go, edited_or_same, file_there, nothing_forgotten, without_value}
use Rattle.module_restore.specs.forgetting.Laws.{NoPathHasStack}
use Rattle.module_restore.specs.forgetting.Views.{ArePopped}
use Rattle.module_restore.proofs.forgetting.PopLemmas.{nothing_popped, pops_alike, same_then, unset_stack}

-- ---- a module that is dropped, and then its values are popped

pub forgotten_by : (o : Text) (e d after : Environment) → dropped_loaded e o ≡ Ok d → ArePopped o d after → IsForgotten o e after
forgotten_by o e d after drops popped =
    let only = drop_edits_loaded e d o drops in record {
      dropped = d;
      drops = drops;
      lists = popped.rest.lists;
      stacks = λ v h.
          let kept = loaded_keeps e d v only h in
          same_then after (without_value d v o) (without_value e v o) v (popped.stacks v h) (pops_alike d e v o (record { value = kept.value; stack = kept.stack_text }));
      counters = λ v h. popped.rest.counters v h ∙ (loaded_keeps e d v only h).counters;
      others = λ q h. popped.rest.others q h ∙ loaded_rest_stays e d q only h;
    }

-- ---- what stays loaded

lists_kept : (o : Text) (e after : Environment) → (f : IsForgotten o e after) → loaded_in after ≡ loaded_in f.dropped
lists_kept o e after f = (keeps_list f.dropped after f.lists.names f.lists.files f.lists.conflicts f.lists.prereqs).list

pub others_loaded : (o : Text) (e after : Environment) (xs : List Entry) → loaded_in e ≡ Some xs → IsForgotten o e after → loaded_in after ≡ Some (without_entry o xs)
others_loaded o e after xs h f = lists_kept o e after f ∙ dropped_list e f.dropped o xs h f.drops

-- ---- what stays as it is

no_value : (o v : Text) (e : Environment) → ((s : StackState) → stack_in e v ≡ Some s → holds o s.items ≡ false) → without_value e v o ≡ e
no_value o v e none = at (stack_in e v) refl
  where
    refused : (r : Option EnvReason) (x : EnvReason) → edited_or_same e (unless r (Err x)) ≡ e
    refused None x = refl
    refused (Some y) x = refl

    at : (st : Option StackState) → stack_in e v ≡ st → without_value e v o ≡ e
    at None k = ap (λ (st : Option StackState). edited_or_same e (unless (pop_reason v o) (popped_from e v o st))) k ∙ refused (pop_reason v o) _
    at (Some s) k = nothing_popped e v o s k (none s k)

pub variable_stays : (o v : Text) (e after : Environment) → IsForgotten o e after → is_editable v ≡ true
    → ((s : StackState) → stack_in e v ≡ Some s → holds o s.items ≡ false) → IsVariableUnchanged e after v
variable_stays o v e after f h none =
    let same = subst (λ (x : Environment). SameStack after x v) (no_value o v e none) (f.stacks v h) in
    keeps e after v same.value (f.counters v h) same.stack

-- ---- one environment

one_drop : (d x : Environment) (r : Result Environment EnvReason) → r ≡ accepted d → r ≡ accepted x → d ≡ x
one_drop d x r h k = cc

pub one_forgetting : (o : Text) (e after other : Environment) → IsForgotten o e after → IsForgotten o e other → after ≡ other
one_forgetting o e after other f g = same_environment after other (λ q. at q (role_of q) refl (name_of_role q))
  where
    list : f.dropped ≡ g.dropped
    list = one_drop f.dropped g.dropped (dropped_loaded e o) f.drops g.drops

    lists : SameLoaded other f.dropped
    lists = subst (SameLoaded other) (sym list) g.lists

    named : (q n : Text) → q ≡ n → lookup after n ≡ lookup other n → lookup after q ≡ lookup other q
    named q n same h = subst (λ (t : Text). lookup after t ≡ lookup other t) (sym same) h

    at : (q : Text) (r : VariableRole) → role_of q ≡ r → IsNameOf q r → lookup after q ≡ lookup other q
    at q (Variable v) is (h, same) = named q v same ((f.stacks v h).value ∙ sym (g.stacks v h).value)
    at q (Counters v) is (h, same) = named q (share_name v) same (f.counters v h ∙ sym (g.counters v h))
    at q (Stack v) is (h, same) = named q (stack_name v) same ((f.stacks v h).stack ∙ sym (g.stacks v h).stack)
    at q LoadedNames is same = named q _ same (f.lists.names ∙ sym lists.names)
    at q LoadedFiles is same = named q _ same (f.lists.files ∙ sym lists.files)
    at q LoadedConflicts is same = named q _ same (f.lists.conflicts ∙ sym lists.conflicts)
    at q LoadedPrereqs is same = named q _ same (f.lists.prereqs ∙ sym lists.prereqs)
    at q Other is same = f.others q is ∙ sym (g.others q is)

-- ---- order

stack_kept : (loaded : List Text) (a b : Environment) (v : Text) → SameStack b a v → IsStackInOrder loaded a v → IsStackInOrder loaded b v
stack_kept loaded a b v same (inl h) = inl (same.stack ∙ h)
stack_kept loaded a b v same (inr h) = inr (record { items = h.items; valid = h.valid; owned = h.owned; owners = h.owners; text = same.stack ∙ h.text; value = same.value ∙ h.value })

owner_first : (b : Bool) (loaded : List Text) (o n : Text) (more : Bool) → bytes_eq o n ≡ b → has n loaded ≡ true → (more ≡ true → has o loaded ≡ true) → (b || more) ≡ true → has o loaded ≡ true
owner_first true loaded o n more q k later t = ap (λ (y : Text). has y loaded) (same_text o n q) ∙ k
owner_first false loaded o n more q k later t = later t

owner_in : (loaded : List Text) (o : Text) (items : List OwnedValue) → holds o items ≡ true → list_all (λ item. is_loaded_owner loaded item.0) items ≡ true → has o loaded ≡ true
owner_in loaded o [] h k = absurd (false≢true h)
owner_in loaded o ((None, x) ∷ is) h k = owner_in loaded o is h k
owner_in loaded o ((Some n, x) ∷ is) h k =
    let both = both_true (has n loaded) (list_all (λ item. is_loaded_owner loaded item.0) is) k in
    owner_first (bytes_eq o n) loaded o n (holds o is) refl both.0 (λ t. owner_in loaded o is t both.1) h

pop_made : (e : Environment) (v o : Text) (s : StackState) → pop_reason v o ≡ None → stack_in e v ≡ Some s → holds o s.items ≡ true → popped_value e v o ≡ Ok (with_stack e v (pop s o))
pop_made e v o s reason found held =
    ap (λ (r : Option EnvReason). unless r (popped_from e v o (stack_in e v))) reason
    ∙ ap (popped_from e v o) found
    ∙ ap (λ (b : Bool). if b then accepted (with_stack e v (pop s o)) else Ok e) held

no_reason : (v o : Text) → is_editable v ≡ true → is_module_name o ≡ true → pop_reason v o ≡ None
no_reason v o h k =
    ap (λ (r : Option EnvReason). option_or r (if is_module_name o then None else Some (bad_value v))) ((no_reason_against v).0 h)
    ∙ ap (λ (b : Bool). if b then None else Some (bad_value v)) k

module _ (o : Text) (e after : Environment) (f : IsForgotten o e after) (loaded : List Text) (spelled : list_all is_module_name loaded ≡ true) where
  stack_ordered_by : (v : Text) (s : StackState) (b : Bool) → is_editable v ≡ true → IsStackInOrder loaded e v → stack_in e v ≡ Some s
      → list_all (λ item. is_loaded_owner loaded item.0) s.items ≡ true → holds o s.items ≡ b → IsStackInOrder (without o loaded) after v
  stack_ordered_by v s true h ordered found owners held =
      let name : is_module_name o ≡ true = passes_each is_module_name o loaded spelled (owner_in loaded o s.items held owners) in
      let made = pop_made e v o s (no_reason v o h name) found held in
      let same = subst (λ (x : Environment). SameStack after x v) (ap (edited_or_same e) made) (f.stacks v h) in
      stack_kept (without o loaded) (with_stack e v (pop s o)) after v same (pop_in_order loaded e (with_stack e v (pop s o)) v o spelled ordered made)
  stack_ordered_by v s false h ordered found owners held =
      let same = subst (λ (x : Environment). SameStack after x v) (nothing_popped e v o s found held) (f.stacks v h) in
      stack_kept (without o loaded) e after v same (order_of_fewer loaded e v o s spelled ordered found held)

  stack_ordered : (v : Text) → is_editable v ≡ true → IsStackInOrder loaded e v → IsStackInOrder (without o loaded) after v
  stack_ordered v h ordered =
      let start = start_of loaded e v spelled ordered in
      stack_ordered_by v start.0 (holds o start.0.items) h ordered start.1.found start.1.owners refl

same_list : (xs ys : List Entry) → Some xs ≡ Some ys → xs ≡ ys
same_list xs ys h = cc

-- it is in order by these uses, and no path has a stack
record IsReady (uses : Text → VariableUse) (e : Environment) : Type 0 where
  order : IsInOrder uses e
  unstacked : NoPathHasStack uses e

unstacked_stays : (o v : Text) (e after : Environment) → IsForgotten o e after → is_editable v ≡ true → lookup e (stack_name v) ≡ None → IsVariableUnchanged e after v
unstacked_stays o v e after f h none =
    let same = subst (λ (x : Environment). SameStack after x v) (unset_stack e v o none) (f.stacks v h) in
    keeps e after v same.value (f.counters v h) same.stack

same_done : (d x : Forgetting) → (let r : Result Forgetting ForgetReason = Ok d in r) ≡ Ok x → d ≡ x
same_done d x h = cc

refused_done : {P : Type 0} (d : Forgetting) (r : ForgetReason) → (let o : Result Forgetting ForgetReason = Ok d in o) ≡ Err r → P
refused_done d r h = cc

module _ (uses : Text → VariableUse) where
  entry_keeps_order : (o : Text) (e after : Environment) → IsForgotten o e after → IsReady uses e → IsInOrder uses after
  entry_keeps_order o e after f ready =
      let list = list_in_order e ready.order.loaded in
      let xs = list.0 in
      let found = list.1 in
      let left = others_loaded o e after xs found f in record {
        loaded = (keeps_list f.dropped after f.lists.names f.lists.files f.lists.conflicts f.lists.prereqs).order (drop_keeps_order e f.dropped o ready.order.loaded f.drops);
        paths = λ v delim h used. (unstacked_stays o v e after f h (ready.unstacked v delim h used)).path_order delim (ready.order.paths v delim h used);
        stacks = λ v entries h used read.
            let same : without_entry o xs ≡ entries = same_list (without_entry o xs) entries (sym left ∙ read) in
            subst (λ (ns : List Text). IsStackInOrder ns after v) (sym (names_dropped xs o) ∙ ap names_of same)
            (stack_ordered o e after f (names_of xs) list.2.names v h (ready.order.stacks v xs h used found));
      }

  entry_keeps : (o : Text) (e after : Environment) → IsForgotten o e after → IsReady uses e → IsReady uses after
  entry_keeps o e after f ready = record {
    order = entry_keeps_order o e after f ready;
    unstacked = λ v delim h used.
        let none = ready.unstacked v delim h used in
        (unstacked_stays o v e after f h none).stack_text ∙ none;
  }

  -- ---- each name

  entry_done : (x : Entry) (d mid : Forgetting) → ForgetsEntry x d (Ok mid) → IsReady uses d.env → IsReady uses mid.env
  entry_done x d mid (after, f, is) ready =
      subst (IsReady uses) (sym (ap (λ (t : Forgetting). t.env) (same_done mid _ is))) (entry_keeps x.name d.env after f ready)

  meant_done : (settings_stay : Bool) (files : Files) (name : Text) (d mid : Forgetting) (o : Option Entry) → ForgetsMeant settings_stay files name d o (Ok mid) → IsReady uses d.env → IsReady uses mid.env
  meant_done settings_stay files name d mid None h ready = refused_done mid _ h
  meant_done settings_stay files name d mid (Some x) h ready = at (can_go settings_stay files x.path) refl h
    where
      at : (b : Bool) → can_go settings_stay files x.path ≡ b → If b (ForgetsEntry x d) (Is (Err (file_there x.path))) (Ok mid) → IsReady uses mid.env
      at true is k = entry_done x d mid k ready
      at false is k = refused_done mid _ k

  name_done : (settings_stay : Bool) (files : Files) (name : Text) (d mid : Forgetting) → ForgetsName settings_stay files name d (Ok mid) → IsReady uses d.env → IsReady uses mid.env
  name_done settings_stay files name d mid (Ok entries, read, h) ready = meant_done settings_stay files name d mid (last_meant name entries) h ready
  name_done settings_stay files name d mid (Err r, read, h) ready = refused_done mid r h

  each_done : (settings_stay : Bool) (files : Files) (names : List Text) (d last : Forgetting) → ForgetsEach settings_stay files names d (Ok last) → IsReady uses d.env → IsReady uses last.env
  each_done settings_stay files [] d last h ready = subst (IsReady uses) (sym (ap (λ (t : Forgetting). t.env) (same_done last d h))) ready
  each_done settings_stay files (name ∷ names) d last (Ok mid, first, rest) ready = each_done settings_stay files names mid last rest (name_done settings_stay files name d mid first ready)
  each_done settings_stay files (name ∷ names) d last (Err r, first, rest) ready = refused_done last r rest

pub keeps_order : (settings_stay : Bool) (files : Files) (e : Environment) (names : List Text) (d : Forgetting) (uses : Text → VariableUse) → Forgets settings_stay files e names (Ok d)
    → NoPathHasStack uses e → IsInOrder uses e → IsInOrder uses d.env
keeps_order settings_stay files e names d uses h unstacked order =
    (each_done uses settings_stay files names (nothing_forgotten e) d h (record { order = order; unstacked = unstacked })).order
