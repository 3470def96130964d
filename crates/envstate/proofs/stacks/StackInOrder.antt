-- Edits keep stacks in order.
use Rattle.std.proofs.Common.{◌≡◌, Bool, true, false, cond, not, ◌||◌, List, [], ◌∷◌, ◌++◌, refl, sym, ap, ◌∙◌, subst}
use Rattle.std.proofs.Common.{Option, Some, None, Result, Ok, Err, inl, inr, IsTrue}
use Rattle.std.specs.Prelude.{bytes_eq, if◌then◌else◌, IfOk}
use Rattle.std.specs.List.{list_all, list_any}
use Rattle.modulename.specs.ModuleName.{is_module_name}
use Rattle.envvars.specs.Texts.{Text, has}
use Rattle.envvars.specs.Fields.{without}
use Rattle.envvars.specs.Names.{stack_name}
use Rattle.envvars.specs.Environment.{Environment, lookup}
use Rattle.envstate.specs.stacks.Stacks.{OwnedValue, StackState, is_owner, has_owner, holds, without_owner, visible}
use Rattle.envstate.specs.stacks.Stacks.{items_or_bottom, push, without_lone_bottom, on_top, pop}
use Rattle.envstate.specs.stacks.StackTexts.{items_in, is_stack, is_writable_owner, is_writable_stack, stack_text}
use Rattle.envstate.specs.stacks.StackVariables.{stack_from, stack_in, with_stack, pushed_value, popped_value}
use Rattle.envstate.specs.stacks.StackVariables.{is_loaded_owner, IsWrittenStack, IsStackInOrder}
use Rattle.envstate.specs.stacks.StackOrder.{HoldsStack}
use Rattle.envvars.proofs.TextLemmas.{bytes_eq-symmetric, has-push, has-without}
use Rattle.envvars.proofs.EditLemmas.{passes_each, both_true, and_both}
use Rattle.envstate.proofs.stacks.StackLemmas.{without_stranger}
use Rattle.envstate.proofs.stacks.StackAgain.{stack_again, stack_readable}
use Rattle.envstate.proofs.stacks.StackAfter.{all_less, name_owns, whole, push_accepts, pop_new, pop_accepts, written_after}

-- owners that are loaded can be read again
loaded_owns : (loaded : List Text) (o : Option Text) → list_all is_module_name loaded ≡ true → is_loaded_owner loaded o ≡ true → is_writable_owner o ≡ true
loaded_owns loaded None n h = refl
loaded_owns loaded (Some owner) n h = name_owns owner (passes_each is_module_name owner loaded n h)

loaded_own : (loaded : List Text) (items : List OwnedValue) → list_all is_module_name loaded ≡ true
    → list_all (λ item. is_loaded_owner loaded item.0) items ≡ true
    → list_all (λ item. is_writable_owner item.0) items ≡ true
loaded_own loaded [] n h = refl
loaded_own loaded (i ∷ is) n h =
    let k = both_true (is_loaded_owner loaded i.0) (list_all (λ item. is_loaded_owner loaded item.0) is) h in
    and_both (is_writable_owner i.0) (list_all (λ item. is_writable_owner item.0) is) (loaded_owns loaded i.0 n k.0) (loaded_own loaded is n k.1)

-- what is read of a stack in order
stack_none : (e : Environment) (name : Text) → lookup e (stack_name name) ≡ None → stack_in e name ≡ Some (record { items = []; value = lookup e name })
stack_none e name h = ap (λ (t : Option Text). stack_from (items_in t) (lookup e name)) h

items_written : (loaded : List Text) (e : Environment) (name : Text) (w : IsWrittenStack loaded e name) → list_all is_module_name loaded ≡ true → items_in (lookup e (stack_name name)) ≡ Some w.items
items_written loaded e name w n =
    let k : is_writable_stack w.items ≡ true = and_both (is_stack w.items) (list_all (λ item. is_writable_owner item.0) w.items) w.valid (loaded_own loaded w.items n w.owners) in
    ap items_in w.text ∙ stack_again w.items k

stack_written : (loaded : List Text) (e : Environment) (name : Text) (w : IsWrittenStack loaded e name)
    → list_all is_module_name loaded ≡ true
    → stack_in e name ≡ Some (record { items = w.items; value = lookup e name })
stack_written loaded e name w n = ap (λ (o : Option (List OwnedValue)). stack_from o (lookup e name)) (items_written loaded e name w n)

base_loaded : (loaded : List Text) (items : List OwnedValue) (value : Option Text)
    → list_all (λ item. is_loaded_owner loaded item.0) items ≡ true
    → list_all (λ item. is_loaded_owner loaded item.0) (items_or_bottom items value) ≡ true
base_loaded loaded [] None h = refl
base_loaded loaded [] (Some v) h = refl
base_loaded loaded (i ∷ is) value h = h

pushed : (loaded : List Text) (old new : Environment) (name owner value : Text) (s : StackState)
    → has owner loaded ≡ true → list_all (λ item. is_loaded_owner loaded item.0) s.items ≡ true
    → stack_in old name ≡ Some s → pushed_value old name owner value ≡ Ok new
    → IsWrittenStack loaded new name
pushed loaded old new name owner value s o l e h =
    let a = push_accepts old new name owner value s e h in
    let w = written_after old new name (push s owner value) a in
    record {
      items = (push s owner value).items;
      valid = (both_true (is_stack (push s owner value).items) (list_all (λ item. is_writable_owner item.0) (push s owner value).items) (whole (push s owner value).items a.parts)).0;
      owned = refl;
      owners = and_both (has owner loaded) (list_all (λ item. is_loaded_owner loaded item.0) (without_owner owner (items_or_bottom s.items s.value))) o
          (all_less (λ item. is_loaded_owner loaded item.0) (λ item. not (is_owner owner item.0)) (items_or_bottom s.items s.value) (base_loaded loaded s.items s.value l));
      text = w.text;
      value = w.value;
    }

pub push_in_order : (loaded : List Text) (old new : Environment) (name owner value : Text)
    → list_all is_module_name loaded ≡ true → has owner loaded ≡ true → IsStackInOrder loaded old name
    → pushed_value old name owner value ≡ Ok new → IsStackInOrder loaded new name
push_in_order loaded old new name owner value n o (inl x) h = inr (pushed loaded old new name owner value (record { items = []; value = lookup old name }) o refl (stack_none old name x) h)
push_in_order loaded old new name owner value n o (inr w) h = inr
    (pushed loaded old new name owner value (record { items = w.items; value = lookup old name }) o w.owners
    (stack_written loaded old name w n) h)

-- the owners but for the one that is popped
owner_left : (loaded : List Text) (m n : Text) → bytes_eq m n ≡ false → has n loaded ≡ true → has n (without m loaded) ≡ true
owner_left loaded m n d h = has-without loaded m n ∙ and_both (not (bytes_eq n m)) (has n loaded) (rw (bytes_eq-symmetric n m ∙ d) refl) h

owners_left : (loaded : List Text) (m : Text) (items : List OwnedValue)
    → list_all (λ item. is_loaded_owner loaded item.0) items ≡ true
    → list_all (λ item. is_loaded_owner (without m loaded) item.0) (without_owner m items) ≡ true
owners_left loaded m [] h = refl
owners_left loaded m ((None, value) ∷ items) h = owners_left loaded m items h
owners_left loaded m ((Some n, value) ∷ items) h =
    let k = both_true (has n loaded) (list_all (λ item. is_loaded_owner loaded item.0) items) h in
    at (bytes_eq m n) refl k.0 (owners_left loaded m items k.1)
  where
    at : (b : Bool) → bytes_eq m n ≡ b → has n loaded ≡ true → list_all (λ item. is_loaded_owner (without m loaded) item.0) (without_owner m items) ≡ true
        → list_all (λ item. is_loaded_owner (without m loaded) item.0) (cond (not b) ((Some n, value) ∷ without_owner m items) (without_owner m items)) ≡ true
    at true d t r = r
    at false d t r = and_both (has n (without m loaded)) (list_all (λ item. is_loaded_owner (without m loaded) item.0) (without_owner m items)) (owner_left loaded m n d t) r

-- where no item goes, the stack is in order without the module
kept : (loaded : List Text) (e : Environment) (name m : Text) (w : IsWrittenStack loaded e name) → holds m w.items ≡ false → IsWrittenStack (without m loaded) e name
kept loaded e name m w h =
    record {
      items = w.items;
      valid = w.valid;
      owned = w.owned;
      owners = ap (list_all (λ item. is_loaded_owner (without m loaded) item.0)) (sym (without_stranger m w.items h)) ∙ owners_left loaded m w.items w.owners;
      text = w.text;
      value = w.value;
    }

-- what the variable holds: the first value that is left, whether the item was on top or below
first_left : (m : Text) (items : List OwnedValue) (t : Bool) → on_top m items ≡ t → cond t (visible (without_owner m items)) (visible items) ≡ visible (without_owner m items)
first_left m items true h = refl
first_left m [] false h = refl
first_left m (i ∷ is) false h = rw h refl

value_left : (m : Text) (items : List OwnedValue) (value : Option Text) → value ≡ visible items → (if on_top m items then visible (without_owner m items) else value) ≡ visible (without_owner m items)
value_left m items value h = ap (λ (v : Option Text). if on_top m items then visible (without_owner m items) else v) h ∙ first_left m items (on_top m items) refl

popped_items : (s : StackState) (m : Text) → holds m s.items ≡ true → (pop s m).items ≡ without_lone_bottom (without_owner m s.items)
popped_items s m h = rw h refl

popped_value_is : (s : StackState) (m : Text) → holds m s.items ≡ true → (pop s m).value ≡ (if on_top m s.items then visible (without_owner m s.items) else s.value)
popped_value_is s m h = rw h refl

settled_if : (b : Bool) (items : List OwnedValue) → list_any (λ item. has_owner item.0) items ≡ b → without_lone_bottom items ≡ cond b items []
settled_if b items h = ap (λ (t : Bool). cond t items []) h

popped : (loaded : List Text) (old new : Environment) (name owner : Text) (w : IsWrittenStack loaded old name)
    → list_all is_module_name loaded ≡ true → popped_value old name owner ≡ Ok new → holds owner w.items ≡ true
    → IsStackInOrder (without owner loaded) new name
popped loaded old new name owner w n h t = at (list_any (λ item. has_owner item.0) (without_owner owner w.items)) refl
  where
    was : StackState
    was = record { items = w.items; value = lookup old name }

    at : (b : Bool) → list_any (λ item. has_owner item.0) (without_owner owner w.items) ≡ b → IsStackInOrder (without owner loaded) new name
    at false f =
        let a = pop_accepts old new name owner was (stack_written loaded old name w n) h t in
        let e : (pop was owner).items ≡ [] = popped_items was owner t ∙ settled_if false (without_owner owner w.items) f in
        inl ((written_after old new name (pop was owner) a).text ∙ ap stack_text e)
    at true f =
        let a = pop_accepts old new name owner was (stack_written loaded old name w n) h t in
        let r = written_after old new name (pop was owner) a in
        let e : (pop was owner).items ≡ without_owner owner w.items = popped_items was owner t ∙ settled_if true (without_owner owner w.items) f in
        let k : is_writable_stack (without_owner owner w.items) ≡ true = ap is_writable_stack (sym e) ∙ whole (pop was owner).items a.parts in
        inr (record {
          items = without_owner owner w.items;
          valid = (both_true (is_stack (without_owner owner w.items)) (list_all (λ item. is_writable_owner item.0) (without_owner owner w.items)) k).0;
          owned = f;
          owners = owners_left loaded owner w.items w.owners;
          text = r.text ∙ ap stack_text e;
          value = r.value ∙ popped_value_is was owner t ∙ value_left owner w.items (lookup old name) w.value;
        })

pub pop_in_order : (loaded : List Text) (old new : Environment) (name owner : Text)
    → list_all is_module_name loaded ≡ true → IsStackInOrder loaded old name → popped_value old name owner ≡ Ok new
    → IsStackInOrder (without owner loaded) new name
pop_in_order loaded old new name owner n (inl x) h =
    inl (ap (λ (e : Environment). lookup e (stack_name name)) (pop_new old new name owner (record { items = []; value = lookup old name }) (stack_none old name x) h) ∙ x)
pop_in_order loaded old new name owner n (inr w) h = at (holds owner w.items) refl
  where
    was : StackState
    was = record { items = w.items; value = lookup old name }

    at : (b : Bool) → holds owner w.items ≡ b → IsStackInOrder (without owner loaded) new name
    at true t = popped loaded old new name owner w n h t
    at false t =
        let e : new ≡ old = pop_new old new name owner was (stack_written loaded old name w n) h ∙ ap (λ (b : Bool). if b then with_stack old name (pop was owner) else old) t in
        inr (subst (λ (d : Environment). IsWrittenStack (without owner loaded) d name) (sym e) (kept loaded old name owner w t))

-- one more module is loaded, or one of which the stack has no item is loaded no more

or_true : (b : Bool) → (b || true) ≡ true
or_true true = refl
or_true false = refl

owner_of_more : (loaded : List Text) (x : Text) (o : Option Text) → is_loaded_owner loaded o ≡ true → is_loaded_owner (loaded ++ x ∷ []) o ≡ true
owner_of_more loaded x None h = refl
owner_of_more loaded x (Some n) h = has-push loaded x n ∙ ap (λ (b : Bool). bytes_eq n x || b) h ∙ or_true (bytes_eq n x)

owners_of_more : (loaded : List Text) (x : Text) (items : List OwnedValue)
    → list_all (λ item. is_loaded_owner loaded item.0) items ≡ true
    → list_all (λ item. is_loaded_owner (loaded ++ x ∷ []) item.0) items ≡ true
owners_of_more loaded x [] h = refl
owners_of_more loaded x (i ∷ is) h =
    let k = both_true (is_loaded_owner loaded i.0) (list_all (λ item. is_loaded_owner loaded item.0) is) h in
    and_both (is_loaded_owner (loaded ++ x ∷ []) i.0) (list_all (λ item. is_loaded_owner (loaded ++ x ∷ []) item.0) is) (owner_of_more loaded x i.0 k.0) (owners_of_more loaded x is k.1)

pub order_of_more : (loaded : List Text) (e : Environment) (name owner : Text) → IsStackInOrder loaded e name → IsStackInOrder (loaded ++ owner ∷ []) e name
order_of_more loaded e name owner (inl x) = inl x
order_of_more loaded e name owner (inr w) =
    inr (record { items = w.items; valid = w.valid; owned = w.owned; owners = owners_of_more loaded owner w.items w.owners; text = w.text; value = w.value })

same_items : (items : List OwnedValue) (v : Option Text) (s : StackState) (o : Option StackState) → o ≡ Some (record { items = items; value = v }) → o ≡ Some s → s.items ≡ items
same_items items v s o h k =
    let e : s ≡ record { items = items; value = v } = cc in
    ap (λ (t : StackState). t.items) e

pub order_of_fewer : (loaded : List Text) (e : Environment) (name owner : Text) (s : StackState)
    → list_all is_module_name loaded ≡ true → IsStackInOrder loaded e name → stack_in e name ≡ Some s
    → holds owner s.items ≡ false
    → IsStackInOrder (without owner loaded) e name
order_of_fewer loaded e name owner s n (inl x) h k = inl x
order_of_fewer loaded e name owner s n (inr w) h k =
    let i = same_items w.items (lookup e name) s (stack_in e name) (stack_written loaded e name w n) h in
    inr (kept loaded e name owner w (ap (holds owner) (sym i) ∙ k))

-- a stack that is set is in order exactly where it is read, and its items are written as its texts

pub record IsRead (e : Environment) (name : Text) (items : List OwnedValue) : Type 0 where
  pub text : Text
  pub there : lookup e (stack_name name) ≡ Some text
  pub read : items_in (lookup e (stack_name name)) ≡ Some items

pub read_is : (e : Environment) (name stack t : Text) (o : Option (List OwnedValue)) (items : List OwnedValue)
    → stack ≡ stack_name name → Some t ≡ lookup e stack → o ≡ items_in (Some t) → o ≡ Some items → IsRead e name items
read_is e name stack t o items named there read some =
    let h : lookup e (stack_name name) ≡ Some t = ap (lookup e) (sym named) ∙ sym there in
    record { text = t; there = h; read = ap items_in h ∙ (sym read ∙ some) }

nothing_there : (e : Environment) (name t : Text) → lookup e (stack_name name) ≡ Some t → lookup e (stack_name name) ≡ None → ⊥
nothing_there e name t h k = let g : (let o : Option Text = Some t in o) ≡ None = sym h ∙ k in cc

same_read : (o : Option (List OwnedValue)) (xs ys : List OwnedValue) → o ≡ Some xs → o ≡ Some ys → xs ≡ ys
same_read o xs ys h k = cc

record AreWritten (loaded : List Text) (e : Environment) (name : Text) (items : List OwnedValue) : Type 0 where
  owned : list_any (λ item. has_owner item.0) items ≡ true
  owners : list_all (λ item. is_loaded_owner loaded item.0) items ≡ true
  held : HoldsStack e name (record { items = items; value = visible items })

ordered : (loaded : List Text) (e : Environment) (name : Text) (items : List OwnedValue) → IsRead e name items → AreWritten loaded e name items → IsStackInOrder loaded e name
ordered loaded e name items r a =
    inr (record {
      items = items;
      valid = (both_true (is_stack items) (list_all (λ item. is_writable_owner item.0) items) (stack_readable (lookup e (stack_name name)) items r.read)).0;
      owned = a.owned;
      owners = a.owners;
      text = a.held.text;
      value = a.held.value;
    })

written : (loaded : List Text) (e : Environment) (name : Text) (items : List OwnedValue)
    → list_all is_module_name loaded ≡ true → IsRead e name items → IsStackInOrder loaded e name
    → AreWritten loaded e name items
written loaded e name items n r (inl none) = absurd (nothing_there e name r.text r.there none)
written loaded e name items n r (inr w) =
    subst (AreWritten loaded e name) (same_read (items_in (lookup e (stack_name name))) w.items items (items_written loaded e name w n) r.read)
    (record { owned = w.owned; owners = w.owners; held = record { text = w.text; value = w.value } })

-- a text that is none of a stack
pub unread_unordered : (loaded : List Text) (e : Environment) (name stack t : Text) (o : Option (List OwnedValue))
    → list_all is_module_name loaded ≡ true → stack ≡ stack_name name → Some t ≡ lookup e stack
    → o ≡ items_in (Some t) → o ≡ None
    → (IsTrue false → IsStackInOrder loaded e name) × (IsStackInOrder loaded e name → IsTrue false)
unread_unordered loaded e name stack t o n named there read none = (λ k. cc, λ k. absurd (not_so k))
  where
    h : lookup e (stack_name name) ≡ Some t
    h = ap (lookup e) (sym named) ∙ sym there

    not_so : IsStackInOrder loaded e name → ⊥
    not_so (inl x) = nothing_there e name t h x
    not_so (inr w) = let g : (let p : Option (List OwnedValue) = None in p) ≡ Some w.items = sym none ∙ (read ∙ (ap items_in (sym h) ∙ items_written loaded e name w n)) in cc

-- a stack without an owner, or with one that isn't loaded
pub unowned : (loaded : List Text) (e : Environment) (name : Text) (items : List OwnedValue)
    → list_all is_module_name loaded ≡ true → IsRead e name items → list_any (λ item. has_owner item.0) items ≡ false
    → (IsTrue false → IsStackInOrder loaded e name) × (IsStackInOrder loaded e name → IsTrue false)
unowned loaded e name items n r f = (λ k. cc, λ k. sym f ∙ (written loaded e name items n r k).owned)

pub stranger_owns : (loaded : List Text) (e : Environment) (name : Text) (items : List OwnedValue)
    → list_all is_module_name loaded ≡ true → IsRead e name items
    → list_all (λ item. is_loaded_owner loaded item.0) items ≡ false
    → (IsTrue false → IsStackInOrder loaded e name) × (IsStackInOrder loaded e name → IsTrue false)
stranger_owns loaded e name items n r f = (λ k. cc, λ k. sym f ∙ (written loaded e name items n r k).owners)

-- else its texts decide
pub order_decided : {E : Type 0} (r : Result Bool E) (loaded : List Text) (e : Environment) (name : Text) (items held : List OwnedValue) → list_all is_module_name loaded ≡ true → IsRead e name items
    → list_any (λ item. has_owner item.0) items ≡ true → list_all (λ item. is_loaded_owner loaded item.0) items ≡ true → held ≡ items
    → IfOk r (λ b. (IsTrue b → HoldsStack e name (record { items = held; value = visible held })) × (HoldsStack e name (record { items = held; value = visible held }) → IsTrue b))
    → IfOk r (λ b. (IsTrue b → IsStackInOrder loaded e name) × (IsStackInOrder loaded e name → IsTrue b))
order_decided (Ok b) loaded e name items held n read owned owners same h =
    let P : List OwnedValue → Type 0 = λ is. HoldsStack e name (record { items = is; value = visible is }) in (
      λ t. ordered loaded e name items read (record { owned = owned; owners = owners; held = subst P same (h.0 t) }),
      λ o. h.1 (subst P (sym same) (written loaded e name items n read o).held),
    )
order_decided (Err x) loaded e name items held n read owned owners same h = tt
