-- What pushes and pops leave.
use Rattle.std.proofs.Common.{◌≡◌, Bool, true, false, cond, not, List, [], ◌∷◌, ◌++◌, refl, sym, ap, ◌∙◌, Option, Some}
use Rattle.std.proofs.Common.{None, inl, inr, ◌⊎◌}
use Rattle.std.specs.Prelude.{bytes_eq, if◌then◌else◌}
use Rattle.std.specs.List.{list_any}
use Rattle.std.proofs.lemmas.List.Elements.{filter-append}
use Rattle.envvars.proofs.TextLemmas.{or_left, or_right}
use Rattle.envvars.specs.Texts.{Text}
use Rattle.envstate.specs.stacks.Stacks.{OwnedValue, StackState, is_owner, has_owner, holds, without_owner, visible}
use Rattle.envstate.specs.stacks.Stacks.{items_or_bottom, push, without_lone_bottom, on_top, pop}
use Rattle.envstate.specs.stacks.StackRuns.{StackEdit, after, AreByOtherOwners, IsOwnedStart, other_pushes, live_from}
use Rattle.envstate.specs.stacks.StackRuns.{items_of, start_with_pushes}
use Rattle.envstate.specs.stacks.StackRuns.StackEdit.{Push, Pop}

-- a start with any value makes no item of an owner
holds_base : (m : Text) (items : List OwnedValue) (value : Option Text) → holds m items ≡ false → holds m (items_or_bottom items value) ≡ false
holds_base m [] None h = refl
holds_base m [] (Some v) h = refl
holds_base m (i ∷ is) value h = h

pub without_stranger : (m : Text) (items : List OwnedValue) → holds m items ≡ false → without_owner m items ≡ items
without_stranger m [] h = refl
without_stranger m (i ∷ is) h =
    rw (or_left (is_owner m i.0) (holds m is) h) (ap (λ (l : List OwnedValue). i ∷ l) (without_stranger m is (or_right (is_owner m i.0) (holds m is) h)))

map_cond : (b : Bool) (p : Text × Text) (ps : List (Text × Text)) → items_of (cond b (p ∷ ps) ps) ≡ cond b ((Some p.0, p.1) ∷ items_of ps) (items_of ps)
map_cond true p ps = refl
map_cond false p ps = refl

without-items_of : (m : Text) (ps : List (Text × Text)) → without_owner m (items_of ps) ≡ items_of (other_pushes m ps)
without-items_of m [] = refl
without-items_of m (p ∷ ps) = rw (without-items_of m ps) (sym (map_cond (not (bytes_eq m p.0)) p (other_pushes m ps)))

-- taking an owner out of the pushes above a base that doesn't hold it
without-over : (m : Text) (ps : List (Text × Text)) (base : List OwnedValue) → holds m base ≡ false → without_owner m (items_of ps ++ base) ≡ items_of (other_pushes m ps) ++ base
without-over m ps base h = filter-append (λ (i : OwnedValue). not (is_owner m i.0)) (items_of ps) base ∙ (rw (without-items_of m ps, without_stranger m base h) refl)

items_or_bottom-start_with_pushes : (start : StackState) (ps : List (Text × Text))
    → items_or_bottom (start_with_pushes start ps).items (start_with_pushes start ps).value ≡ items_of ps
    ++ items_or_bottom start.items start.value
items_or_bottom-start_with_pushes start [] = refl
items_or_bottom-start_with_pushes start (p ∷ ps) = refl

pub push-start_with_pushes : (start : StackState) (ps : List (Text × Text)) (m value : Text)
    → holds m start.items ≡ false → push (start_with_pushes start ps) m value ≡ start_with_pushes start
    ((m, value) ∷ other_pushes m ps)
push-start_with_pushes start ps m value h =
    let e : without_owner m (items_or_bottom (start_with_pushes start ps).items (start_with_pushes start ps).value) ≡ items_of (other_pushes m ps) ++ items_or_bottom start.items start.value
    = rw (items_or_bottom-start_with_pushes start ps) (without-over m ps (items_or_bottom start.items start.value) (holds_base m start.items start.value h)) in
    ap (λ (l : List OwnedValue). let s : StackState = record { items = (Some m, value) ∷ l; value = Some value } in s) e

same_stack : (s t : StackState) → s.items ≡ t.items → s.value ≡ t.value → s ≡ t
same_stack s t e f = λ i. record { items = e i; value = f i }

-- the items, and what the variable holds where they are taken for themselves
abbrev alone : List OwnedValue → StackState
alone items = record { items = without_lone_bottom items; value = visible items }

-- what is left when the last push goes
left_alone : (items : List OwnedValue) (value : Option Text) → (items ≡ [])
    ⊎ ((list_any (λ (i : OwnedValue). has_owner i.0) items ≡ true) × (value ≡ visible items))
    → alone (items_or_bottom items value) ≡ record { items = items; value = value }
left_alone [] None h = refl
left_alone [] (Some v) h = refl
left_alone (i ∷ is) value (inl e) = cc
left_alone (i ∷ is) value (inr p) = same_stack _ _ (rw p.0 refl) (sym p.1)

alone-start_with_pushes : (start : StackState) (ps : List (Text × Text)) → IsOwnedStart start → alone (items_of ps ++ items_or_bottom start.items start.value) ≡ start_with_pushes start ps
alone-start_with_pushes start [] h = left_alone start.items start.value h
alone-start_with_pushes start (p ∷ ps) h = refl

other_absent : (m : Text) (ps : List (Text × Text)) (base : List OwnedValue) → holds m (items_of ps ++ base) ≡ false → other_pushes m ps ≡ ps
other_absent m [] base h = refl
other_absent m (p ∷ ps) base h =
    let here : bytes_eq m p.0 ≡ false = or_left (bytes_eq m p.0) (holds m (items_of ps ++ base)) h in
    rw here (ap (λ (l : List (Text × Text)). p ∷ l) (other_absent m ps base (or_right (bytes_eq m p.0) (holds m (items_of ps ++ base)) h)))

-- the newest push goes, or one below it
popped : (start : StackState) (p : Text × Text) (ps : List (Text × Text)) (m : Text) (b : Bool) (w : List OwnedValue)
    → IsOwnedStart start → w ≡ items_of (other_pushes m ps) ++ items_or_bottom start.items start.value
    → (let s : StackState = record { items = without_lone_bottom (cond (not b) ((Some p.0, p.1) ∷ w) w); value = cond b (visible (cond (not b) ((Some p.0, p.1) ∷ w) w)) (Some p.1) } in s)
    ≡ start_with_pushes start (cond (not b) (p ∷ other_pushes m ps) (other_pushes m ps))
popped start p ps m true w h e = rw e (alone-start_with_pushes start (other_pushes m ps) h)
popped start p ps m false w h e = rw e refl

pop_if : (start : StackState) (p : Text × Text) (ps : List (Text × Text)) (m : Text) (t : Bool)
    → holds m (start_with_pushes start (p ∷ ps)).items ≡ t → IsOwnedStart start → holds m start.items ≡ false
    → (let all : List OwnedValue = (start_with_pushes start (p ∷ ps)).items in
    let s : StackState = record { items = without_lone_bottom (without_owner m all); value = if on_top m all then visible (without_owner m all) else Some p.1 } in
    cond t s (start_with_pushes start (p ∷ ps)))
    ≡ start_with_pushes start (other_pushes m (p ∷ ps))
pop_if start p ps m true e h k =
    popped start p ps m (bytes_eq m p.0) _ h (without-over m ps (items_or_bottom start.items start.value) (holds_base m start.items start.value k))
pop_if start p ps m false e h k = ap (start_with_pushes start) (sym (other_absent m (p ∷ ps) (items_or_bottom start.items start.value) e))

pub pop-start_with_pushes : (start : StackState) (ps : List (Text × Text)) (m : Text) → IsOwnedStart start
    → holds m start.items ≡ false → pop (start_with_pushes start ps) m ≡ start_with_pushes start (other_pushes m ps)
pop-start_with_pushes start [] m h k = rw k refl
pop-start_with_pushes start (p ∷ ps) m h k = pop_if start p ps m (holds m (start_with_pushes start (p ∷ ps)).items) refl h k

pub after-start_with_pushes : (start : StackState) (ps : List (Text × Text)) (edits : List StackEdit)
    → IsOwnedStart start → AreByOtherOwners edits start.items
    → after edits (start_with_pushes start ps) ≡ start_with_pushes start (live_from ps edits)
after-start_with_pushes start ps [] h k = refl
after-start_with_pushes start ps (Push m value ∷ edits) h k =
    ap (after edits) (push-start_with_pushes start ps m value k.0) ∙ after-start_with_pushes start ((m, value) ∷ other_pushes m ps) edits h k.1
after-start_with_pushes start ps (Pop m ∷ edits) h k =
    ap (after edits) (pop-start_with_pushes start ps m h k.0) ∙ after-start_with_pushes start (other_pushes m ps) edits h k.1
