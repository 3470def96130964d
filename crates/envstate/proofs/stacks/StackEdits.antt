-- Edits of stacks, put together from their parts.
use Rattle.std.proofs.Common.{ℕ, zero, suc, ◌+◌, ◌&&◌, length, take, arith, ◌≡◌, Bool, true, false, cond, not, ◌||◌}
use Rattle.std.proofs.Common.{List, [], ◌∷◌, refl, sym, ap, ◌∙◌, Option, Some, None, Ok, Err, string_bytes, map}
use Rattle.std.specs.Prelude.{filter, if◌then◌else◌, is_some}
use Rattle.std.specs.Option.{option_map}
use Rattle.std.specs.List.{list_all, list_any}
use Rattle.std.specs.declared.string.String.{String}
use Rattle.std.specs.declared.alloc.Global.{Global}
use Rattle.envvars.specs.Texts.{Text}
use Rattle.envvars.specs.Names.{stack_name}
use Rattle.envvars.specs.Environment.{Environment, lookup}
use Rattle.envstate.specs.stacks.Stacks.{OwnedValue, is_owner, has_owner, holds, without_owner, visible, push}
use Rattle.envstate.specs.stacks.Stacks.{without_lone_bottom, on_top}
use Rattle.envstate.specs.stacks.StackTexts.{items_in, bottoms_last}
use Rattle.envstate.specs.stacks.StackItems.{item_in}
use Rattle.envstate.specs.stacks.StackVariables.{stack_from, stack_in, with_stack, push_reason, pop_reason, pushed_on}
use Rattle.envstate.specs.stacks.StackVariables.{popped_from, pushed_value, popped_value}
use Rattle.envvars.specs.Reasons.{bad_stack}
use Rattle.envstate.specs.declared.stacks.texts.StackItem.{StackItem}

owned_is : (o : Option (String Global)) → is_some o ≡ has_owner (option_map string_bytes o)
owned_is None = refl
owned_is (Some x) = refl

both_owned : (a b : Bool) (c d : Bool) → a ≡ b → c ≡ d → (a && c) ≡ ((b || false) && d)
both_owned true true c d e f = f
both_owned true false c d e f = cc
both_owned false true c d e f = cc
both_owned false false c d e f = refl

last_owned : (b : Bool) → true ≡ ((b || true) && true)
last_owned true = refl
last_owned false = refl

-- those before the last are owned
pub front_owned : (items : List StackItem) (n : ℕ) → n + 1 ≡ length items → list_all (λ item. is_some item.owner) (take n items) ≡ bottoms_last (map item_in items)
front_owned [] n e = absurd (omega arith)
front_owned (x ∷ []) zero e = last_owned (has_owner (option_map string_bytes x.owner))
front_owned (x ∷ []) (suc n) e = absurd (omega arith)
front_owned (x ∷ y ∷ ys) zero e = absurd (omega arith)
front_owned (x ∷ y ∷ ys) (suc n) e = both_owned _ _ _ _ (owned_is x.owner) (front_owned (y ∷ ys) n (omega arith))

pub any_owned : (items : List StackItem) → list_any (λ item. is_some item.owner) items ≡ list_any (λ item. has_owner item.0) (map item_in items)
any_owned [] = refl
any_owned (i ∷ is) = ap (λ (b : Bool). b || list_any (λ item. is_some item.owner) is) (owned_is i.owner) ∙ ap (λ (b : Bool). has_owner (option_map string_bytes i.owner) || b) (any_owned is)

pub unsettled : (items : List StackItem) (b : Bool) (kept : List OwnedValue) → b ≡ list_any (λ item. is_some item.owner) items → b ≡ false → kept ≡ [] → kept ≡ without_lone_bottom (map item_in items)
unsettled items b kept e f h = h ∙ (rw (sym (any_owned items) ∙ sym e ∙ f) refl)

pub stays_settled : (items : List StackItem) (b : Bool) → b ≡ list_any (λ item. is_some item.owner) items → b ≡ true → map item_in items ≡ without_lone_bottom (map item_in items)
stays_settled items b e f = rw (sym (any_owned items) ∙ sym e ∙ f) refl

out_at : (b : Bool) (i : StackItem) (is : List StackItem) (js : List OwnedValue) → map item_in is ≡ js → map item_in (cond b (i ∷ is) is) ≡ cond b (item_in i ∷ js) js
out_at true i is js e = ap (λ (l : List OwnedValue). item_in i ∷ l) e
out_at false i is js e = e

pub out_is : (m : Text) (items : List StackItem) → map item_in (filter (λ item. not (is_owner m (option_map string_bytes item.owner))) items) ≡ without_owner m (map item_in items)
out_is m [] = refl
out_is m (i ∷ is) = out_at (not (is_owner m (option_map string_bytes i.owner))) i _ _ (out_is m is)

pub holds_is : (m : Text) (items : List StackItem) → list_any (λ item. is_owner m (option_map string_bytes item.owner)) items ≡ holds m (map item_in items)
holds_is m [] = refl
holds_is m (i ∷ is) = ap (λ (b : Bool). is_owner m (option_map string_bytes i.owner) || b) (holds_is m is)

-- what was read of the variable's stack
pub stack_read : (e : Environment) (name : Text) (o : Option (List OwnedValue)) (t : Option Text) (n : Text)
    → o ≡ items_in t → t ≡ lookup e n → n ≡ stack_name name → stack_from o (lookup e name) ≡ stack_in e name
stack_read e name o t n h k l = ap (λ (p : Option (List OwnedValue)). stack_from p (lookup e name)) (h ∙ ap items_in (k ∙ ap (lookup e) l))

pub no_pop : (e : Environment) (name owner s : Text) (o : Option (List OwnedValue)) → pop_reason name owner ≡ None → stack_from o (lookup e name) ≡ stack_in e name → o ≡ None → s ≡ name
    → (e ≡ e) × (popped_value e name owner ≡ Err (bad_stack s))
no_pop e name owner s o r h n k = (
  refl,
  rw r
      (ap (popped_from e name owner) (sym h ∙ ap (λ (p : Option (List OwnedValue)). stack_from p (lookup e name)) n)
      ∙ ap (λ (t : Text). Err (bad_stack t)) (sym k)),
)

-- a stack is written
pub push_made : (e : Environment) (name owner value : Text) (items stack : List OwnedValue) (o : Option (List OwnedValue)) (current v : Option Text) → push_reason name owner value ≡ None
    → stack_from o (lookup e name) ≡ stack_in e name → o ≡ Some items → current ≡ lookup e name → stack ≡ (push (record { items = items; value = current }) owner value).items → v ≡ Some value
    → pushed_value e name owner value ≡ Ok (with_stack e name (record { items = stack; value = v }))
push_made e name owner value items stack o current v r h n c s w =
    rw r (ap (pushed_on e name owner value) (sym h ∙ ap (λ (p : Option (List OwnedValue)). stack_from p (lookup e name)) n)
    ∙ (rw (s, w, c) refl))

pub popped_is : (e : Environment) (name owner : Text) (items : List OwnedValue) (o : Option (List OwnedValue))
    → pop_reason name owner ≡ None → stack_from o (lookup e name) ≡ stack_in e name → o ≡ Some items
    → popped_value e name owner ≡ popped_from e name owner (Some (record { items = items; value = lookup e name }))
popped_is e name owner items o r h n = rw r (ap (popped_from e name owner) (sym h ∙ ap (λ (p : Option (List OwnedValue)). stack_from p (lookup e name)) n))

pub pop_kept : (e : Environment) (name owner : Text) (items : List OwnedValue) (o : Option (List OwnedValue)) (b : Bool)
    → pop_reason name owner ≡ None → stack_from o (lookup e name) ≡ stack_in e name → o ≡ Some items
    → b ≡ holds owner items → b ≡ false → popped_value e name owner ≡ Ok e
pop_kept e name owner items o b r h n k f = popped_is e name owner items o r h n ∙ (rw (sym k ∙ f) refl)

pub pop_made : (e : Environment) (name owner : Text) (items out stack : List OwnedValue) (o : Option (List OwnedValue)) (b top : Bool) (current v : Option Text) → pop_reason name owner ≡ None
    → stack_from o (lookup e name) ≡ stack_in e name → o ≡ Some items → b ≡ holds owner items → b ≡ true → top ≡ on_top owner items → out ≡ without_owner owner items → current ≡ lookup e name
    → v ≡ (if top then visible out else current) → stack ≡ without_lone_bottom out
    → popped_value e name owner ≡ Ok (with_stack e name (record { items = stack; value = v }))
pop_made e name owner items out stack o b top current v r h n k f t u c w s =
    popped_is e name owner items o r h n ∙ (rw (sym k ∙ f) (rw (w, s, u, t, c) refl))
