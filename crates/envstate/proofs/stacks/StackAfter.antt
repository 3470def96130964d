-- What edits of stacks leave in an environment.
use Rattle.std.proofs.Common.{◌≡◌, Bool, true, false, cond, not, ◌||◌, ◌&&◌, List, [], ◌∷◌, refl, sym, ap, ◌∙◌, subst}
use Rattle.std.proofs.Common.{nat_eq, Option, Some, None, Result, Ok}
use Rattle.std.specs.Prelude.{filter, bytes_eq, if◌then◌else◌}
use Rattle.std.specs.List.{list_all, list_any}
use Rattle.std.proofs.lemmas.Bool.{false≢true}
use Rattle.modulename.specs.ModuleName.{is_module_name}
use Rattle.envvars.specs.Texts.{Text, has}
use Rattle.envvars.specs.Names.{stack_name, name_reason, is_nul_free}
use Rattle.envvars.specs.Environment.{Environment, lookup, with_value}
use Rattle.envvars.specs.Fields.{are_distinct}
use Rattle.envvars.specs.Reasons.{EnvReason}
use Rattle.envstate.specs.stacks.Stacks.{OwnedValue, StackState, is_owner, has_owner, holds, without_owner, visible}
use Rattle.envstate.specs.stacks.Stacks.{items_or_bottom, push, without_lone_bottom, on_top, pop}
use Rattle.envstate.specs.stacks.StackTexts.{items_in, has_no_item, bottoms_last, owners_of, is_stack, is_writable_owner}
use Rattle.envstate.specs.stacks.StackTexts.{is_writable_stack, stack_text}
use Rattle.envstate.specs.stacks.StackVariables.{stack_from, stack_in, with_stack, push_reason, pop_reason, pushed_on}
use Rattle.envstate.specs.stacks.StackVariables.{popped_from, pushed_value, popped_value}
use Rattle.envstate.specs.stacks.StackOrder.{HoldsStack}
use Rattle.envvars.proofs.EnvLemmas.{lookup-with_value}
use Rattle.envvars.proofs.FieldLemmas.{distinct-filter}
use Rattle.envvars.proofs.EditLemmas.{looked, no_reason, no_value_reason, same_ok, both_true, and_both, not_is}
use Rattle.modulename.proofs.NameLemmas.{name_lacks, lacks}
use Rattle.envstate.proofs.stacks.StackAgain.{found_at, value_at, stack_found, stack_readable}

-- the owners but for one
abbrev others : Text → List Text → List Text
others m owners = filter (λ n. not (bytes_eq m n)) owners

owners_if : (b : Bool) (n value : Text) (items : List OwnedValue) (ns : List Text) → owners_of items ≡ ns → owners_of (cond b ((Some n, value) ∷ items) items) ≡ cond b (n ∷ ns) ns
owners_if true n value items ns e = ap (λ (l : List Text). n ∷ l) e
owners_if false n value items ns e = e

owners-without : (m : Text) (items : List OwnedValue) → owners_of (without_owner m items) ≡ others m (owners_of items)
owners-without m [] = refl
owners-without m ((None, value) ∷ items) = owners-without m items
owners-without m ((Some n, value) ∷ items) = owners_if (not (bytes_eq m n)) n value (without_owner m items) _ (owners-without m items)

not_other : (m : Text) (ns : List Text) → has m (others m ns) ≡ false
not_other m [] = refl
not_other m (n ∷ ns) = at (bytes_eq m n) refl (not_other m ns)
  where
    at : (b : Bool) → bytes_eq m n ≡ b → has m (others m ns) ≡ false → has m (cond (not b) (n ∷ others m ns) (others m ns)) ≡ false
    at true e r = r
    at false e r = rw e r

-- a stack without an owner is one

nothing_less : (m : Text) (items : List OwnedValue) → has_no_item items ≡ true → has_no_item (without_owner m items) ≡ true
nothing_less m [] h = refl
nothing_less m (i ∷ is) h = absurd (false≢true h)

above : (b : Bool) (m : Text) (items : List OwnedValue) → (b || has_no_item items) ≡ true → (b || has_no_item (without_owner m items)) ≡ true
above true m items h = refl
above false m items h = nothing_less m items h

bottoms_less : (m : Text) (items : List OwnedValue) → bottoms_last items ≡ true → bottoms_last (without_owner m items) ≡ true
bottoms_less m [] h = refl
bottoms_less m (i ∷ is) h =
    let k = both_true (has_owner i.0 || has_no_item is) (bottoms_last is) h in
    at (not (is_owner m i.0)) (above (has_owner i.0) m is k.0) (bottoms_less m is k.1)
  where
    at : (b : Bool) → (has_owner i.0 || has_no_item (without_owner m is)) ≡ true → bottoms_last (without_owner m is) ≡ true → bottoms_last (cond b (i ∷ without_owner m is) (without_owner m is)) ≡ true
    at true f r = and_both (has_owner i.0 || has_no_item (without_owner m is)) (bottoms_last (without_owner m is)) f r
    at false f r = r

pub all_less : (p q : OwnedValue → Bool) (items : List OwnedValue) → list_all p items ≡ true → list_all p (filter q items) ≡ true
all_less p q [] h = refl
all_less p q (i ∷ is) h = at (q i) (both_true (p i) (list_all p is) h).0 (all_less p q is (both_true (p i) (list_all p is) h).1)
  where
    at : (b : Bool) → p i ≡ true → list_all p (filter q is) ≡ true → list_all p (cond b (i ∷ filter q is) (filter q is)) ≡ true
    at true k r = and_both (p i) (list_all p (filter q is)) k r
    at false k r = r

-- what a written stack has
pub record Parts (items : List OwnedValue) : Type 0 where
  pub bottoms : bottoms_last items ≡ true
  pub distinct : are_distinct (owners_of items) ≡ true
  pub owners : list_all (λ item. is_writable_owner item.0) items ≡ true

pub parted : (items : List OwnedValue) → is_writable_stack items ≡ true → Parts items
parted items h =
    let k = both_true (is_stack items) (list_all (λ item. is_writable_owner item.0) items) h in
    let g = both_true (bottoms_last items) (are_distinct (owners_of items)) k.0 in
    record { bottoms = g.0; distinct = g.1; owners = k.1 }

pub whole : (items : List OwnedValue) → Parts items → is_writable_stack items ≡ true
whole items p =
    and_both (is_stack items) (list_all (λ item. is_writable_owner item.0) items) (and_both (bottoms_last items) (are_distinct (owners_of items)) p.bottoms p.distinct) p.owners

parts_less : (m : Text) (items : List OwnedValue) → Parts items → Parts (without_owner m items)
parts_less m items p =
    record {
      bottoms = bottoms_less m items p.bottoms;
      distinct = ap are_distinct (owners-without m items) ∙ distinct-filter (λ n. not (bytes_eq m n)) (owners_of items) p.distinct;
      owners = all_less (λ item. is_writable_owner item.0) (λ item. not (is_owner m item.0)) items p.owners;
    }

parts_base : (items : List OwnedValue) (value : Option Text) → Parts items → Parts (items_or_bottom items value)
parts_base [] None p = p
parts_base [] (Some v) p = record { bottoms = refl; distinct = refl; owners = refl }
parts_base (i ∷ is) value p = p

-- the name of a module can own
lacks_mark : (x : Text) → lacks 38 x ≡ true → list_any (λ b. nat_eq b 38) x ≡ false
lacks_mark [] h = refl
lacks_mark (b ∷ bs) h = let k = both_true (not (nat_eq b 38)) (lacks 38 bs) h in rw (not_is (nat_eq b 38) k.0) (lacks_mark bs k.1)

pub name_owns : (m : Text) → is_module_name m ≡ true → is_writable_owner (Some m) ≡ true
name_owns [] h = absurd (false≢true h)
name_owns (b ∷ bs) h = rw (lacks_mark (b ∷ bs) (name_lacks 38 (b ∷ bs) refl h)) refl

parts_push : (items : List OwnedValue) (m value : Text) → is_module_name m ≡ true → Parts items → Parts ((Some m, value) ∷ without_owner m items)
parts_push items m value n p =
    let l = parts_less m items p in
    record {
      bottoms = l.bottoms;
      distinct = and_both (not (has m (owners_of (without_owner m items))))
          (are_distinct (owners_of (without_owner m items)))
          (rw (owners-without m items, not_other m (owners_of items)) refl) l.distinct;
      owners = and_both (is_writable_owner (Some m)) (list_all (λ item. is_writable_owner item.0) (without_owner m items)) (name_owns m n) l.owners;
    }

parts_settled : (b : Bool) (items : List OwnedValue) → Parts items → Parts (cond b items [])
parts_settled true items p = p
parts_settled false items p = record { bottoms = refl; distinct = refl; owners = refl }

-- what accepted edits come to

pub record Accepts (old new : Environment) (name : Text) (s : StackState) : Type 0 where
  pub written : new ≡ with_stack old name s
  pub parts : Parts s.items

read_items : (o : Option (List OwnedValue)) (v : Option Text) (s : StackState) → stack_from o v ≡ Some s → (o ≡ Some s.items) × (v ≡ s.value)
read_items None v s h = cc
read_items (Some items) v s h =
    let e : record { items = items; value = v } ≡ s = cc in
    (ap (λ (t : StackState). Some t.items) e, ap (λ (t : StackState). t.value) e)

parts_in : (e : Environment) (name : Text) (s : StackState) → stack_in e name ≡ Some s → Parts s.items
parts_in e name s h = parted s.items (stack_readable (lookup e (stack_name name)) s.items (read_items (items_in (lookup e (stack_name name))) (lookup e name) s h).0)

pub push_accepts : (old new : Environment) (name owner value : Text) (s : StackState) → stack_in old name ≡ Some s
    → pushed_value old name owner value ≡ Ok new → Accepts old new name (push s owner value)
push_accepts old new name owner value s e h =
    let g = no_reason (push_reason name owner value) (pushed_on old name owner value (stack_in old name)) new h in
    let n = both_true (is_module_name owner) (is_nul_free value) (no_value_reason (name_reason name) name (is_module_name owner && is_nul_free value) g.0) in
    record {
      written = same_ok (with_stack old name (push s owner value)) new (pushed_on old name owner value (stack_in old name)) (ap (pushed_on old name owner value) e) g.1;
      parts = parts_push (items_or_bottom s.items s.value) owner value n.0 (parts_base s.items s.value (parts_in old name s e));
    }

-- a pop of an owner that has no item changes nothing
popped : (b : Bool) → (e next new : Environment) → (if b then Ok next else Ok e) ≡ (let r : Result Environment EnvReason = Ok new in r) → new ≡ (if b then next else e)
popped true e next new h = cc
popped false e next new h = cc

pub pop_new : (old new : Environment) (name owner : Text) (s : StackState) → stack_in old name ≡ Some s
    → popped_value old name owner ≡ Ok new → new ≡ (if holds owner s.items then with_stack old name (pop s owner) else
    old)
pop_new old new name owner s e h =
    let g = no_reason (pop_reason name owner) (popped_from old name owner (stack_in old name)) new h in
    popped (holds owner s.items) old (with_stack old name (pop s owner)) new (sym (ap (popped_from old name owner) e) ∙ g.1)

parts_pop : (s : StackState) (m : Text) → Parts s.items → Parts (pop s m).items
parts_pop s m p = at (holds m s.items)
  where
    out : StackState
    out = record { items = without_lone_bottom (without_owner m s.items); value = if on_top m s.items then visible (without_owner m s.items) else s.value }

    at : (b : Bool) → Parts (cond b out s).items
    at true = parts_settled (list_any (λ (i : OwnedValue). has_owner i.0) (without_owner m s.items)) (without_owner m s.items) (parts_less m s.items p)
    at false = p

pub pop_accepts : (old new : Environment) (name owner : Text) (s : StackState) → stack_in old name ≡ Some s
    → popped_value old name owner ≡ Ok new → holds owner s.items ≡ true → Accepts old new name (pop s owner)
pop_accepts old new name owner s e h t =
    record {
      written = pop_new old new name owner s e h ∙ ap (λ (b : Bool). if b then with_stack old name (pop s owner) else old) t;
      parts = parts_pop s owner (parts_in old name s e);
    }

-- what stands in the environment

pub written_after : (old new : Environment) (name : Text) (s : StackState) → Accepts old new name s → HoldsStack new name s
written_after old new name s a =
    subst (λ (e : Environment). HoldsStack e name s) (sym a.written) (record { text = found_at old name s.value (stack_text s.items); value = value_at old name s.value (stack_text s.items) })

stack_after : (old new : Environment) (name : Text) (s : StackState) → Accepts old new name s → stack_in new name ≡ Some s
stack_after old new name s a = ap (λ (e : Environment). stack_in e name) a.written ∙ stack_found old name s (whole s.items a.parts)

others_stay : (e : Environment) (name : Text) (s : StackState) (q : Text) → bytes_eq q name ≡ false → bytes_eq q (stack_name name) ≡ false → lookup (with_stack e name s) q ≡ lookup e q
others_stay e name s q a b =
    lookup-with_value (with_value e name s.value) (stack_name name) (stack_text s.items) q ∙ looked (bytes_eq q (stack_name name)) _ _ b
    ∙ lookup-with_value e name s.value q ∙ looked (bytes_eq q name) _ _ a

pub stack_after_push : (old new : Environment) (name owner value : Text) (s : StackState) → stack_in old name ≡ Some s
    → pushed_value old name owner value ≡ Ok new → stack_in new name ≡ Some (push s owner value)
stack_after_push old new name owner value s e h = stack_after old new name (push s owner value) (push_accepts old new name owner value s e h)

pub written_after_push : (old new : Environment) (name owner value : Text) (s : StackState) → stack_in old name ≡ Some s
    → pushed_value old name owner value ≡ Ok new → HoldsStack new name (push s owner value)
written_after_push old new name owner value s e h = written_after old new name (push s owner value) (push_accepts old new name owner value s e h)

-- an accepted edit has read a stack
was_stack : (o : Option StackState) (P : Type 0) → ((s : StackState) → o ≡ Some s → P) → (o ≡ None → P) → P
was_stack None P f g = g refl
was_stack (Some s) P f g = f s refl

no_stack_pushed : (old new : Environment) (name owner value : Text) → stack_in old name ≡ None → pushed_value old name owner value ≡ Ok new → ⊥
no_stack_pushed old new name owner value e h =
    let g = no_reason (push_reason name owner value) (pushed_on old name owner value (stack_in old name)) new h in
    let k : pushed_on old name owner value None ≡ Ok new = sym (ap (pushed_on old name owner value) e) ∙ g.1 in
    cc

no_stack_popped : (old new : Environment) (name owner : Text) → stack_in old name ≡ None → popped_value old name owner ≡ Ok new → ⊥
no_stack_popped old new name owner e h =
    let g = no_reason (pop_reason name owner) (popped_from old name owner (stack_in old name)) new h in
    let k : popped_from old name owner None ≡ Ok new = sym (ap (popped_from old name owner) e) ∙ g.1 in
    cc

pub others_after_push : (old new : Environment) (name owner value : Text) → pushed_value old name owner value ≡ Ok new
    → (other : Text) → bytes_eq other name ≡ false → bytes_eq other (stack_name name) ≡ false
    → lookup new other ≡ lookup old other
others_after_push old new name owner value h other a b =
    was_stack (stack_in old name) _
    (λ s e. ap (λ (d : Environment). lookup d other) (push_accepts old new name owner value s e h).written ∙ others_stay old name (push s owner value) other a b)
    (λ e. absurd (no_stack_pushed old new name owner value e h))

unmoved : (s : StackState) (m : Text) → holds m s.items ≡ false → pop s m ≡ s
unmoved s m h = rw h refl

pub stack_after_pop : (old new : Environment) (name owner : Text) (s : StackState) → stack_in old name ≡ Some s → popped_value old name owner ≡ Ok new → stack_in new name ≡ Some (pop s owner)
stack_after_pop old new name owner s e h = at (holds owner s.items) refl
  where
    at : (b : Bool) → holds owner s.items ≡ b → stack_in new name ≡ Some (pop s owner)
    at true t = stack_after old new name (pop s owner) (pop_accepts old new name owner s e h t)
    at false t =
        ap (λ (d : Environment). stack_in d name) (pop_new old new name owner s e h ∙ ap (λ (b : Bool). if b then with_stack old name (pop s owner) else old) t)
        ∙ e ∙ ap (λ (r : StackState). Some r) (sym (unmoved s owner t))

pub written_after_pop : (old new : Environment) (name owner : Text) (s : StackState) → stack_in old name ≡ Some s
    → holds owner s.items ≡ true → popped_value old name owner ≡ Ok new → HoldsStack new name (pop s owner)
written_after_pop old new name owner s e t h = written_after old new name (pop s owner) (pop_accepts old new name owner s e h t)

stay_if : (b : Bool) (e next : Environment) (q : Text) → lookup next q ≡ lookup e q → lookup (if b then next else e) q ≡ lookup e q
stay_if true e next q h = h
stay_if false e next q h = refl

pub others_after_pop : (old new : Environment) (name owner : Text) → popped_value old name owner ≡ Ok new
    → (other : Text) → bytes_eq other name ≡ false → bytes_eq other (stack_name name) ≡ false
    → lookup new other ≡ lookup old other
others_after_pop old new name owner h other a b =
    was_stack (stack_in old name) _
    (λ s e.
    ap (λ (d : Environment). lookup d other) (pop_new old new name owner s e h)
    ∙ stay_if (holds owner s.items) old (with_stack old name (pop s owner)) other (others_stay old name (pop s owner) other a b))
    (λ e. absurd (no_stack_popped old new name owner e h))
