-- Runs of pushes and pops on one variable, and the state after them (own).
use Rattle.std.specs.Prelude.{◌≡◌, true, false, not, List, [], ◌∷◌, ◌++◌, filter, map, bytes_eq, Some, ◌⊎◌}
use Rattle.std.specs.List.{list_any}
use Rattle.envvars.specs.Texts.{Text}
use Rattle.envstate.specs.stacks.Stacks.{OwnedValue, StackState, holds, has_owner, visible, items_or_bottom, push, pop}

-- a push or a pop by a module, the owner
pub data StackEdit : Type 0 where
  Push : (owner : Text) (value : Text) → StackEdit
  Pop : (owner : Text) → StackEdit

-- the state after the edits, the first of them first
abbrev pub after : List StackEdit → StackState → StackState
after [] s = s
after (Push m value ∷ edits) s = after edits (push s m value)
after (Pop m ∷ edits) s = after edits (pop s m)

-- No edit is by an owner that has one of the items.
abbrev pub AreByOtherOwners : List StackEdit → List OwnedValue → Type 0
AreByOtherOwners [] items = Unit {0}
AreByOtherOwners (Push m value ∷ edits) items = (holds m items ≡ false) × AreByOtherOwners edits items
AreByOtherOwners (Pop m ∷ edits) items = (holds m items ≡ false) × AreByOtherOwners edits items

-- There is no stack, or it has an item with an owner and the variable has the value of its first item.
abbrev pub IsOwnedStart : StackState → Type 0
IsOwnedStart s = (s.items ≡ []) ⊎ ((list_any (λ item. has_owner item.0) s.items ≡ true) × (s.value ≡ visible s.items))

-- the pushes, as owners and values, without those of that owner
abbrev pub other_pushes : Text → List (Text × Text) → List (Text × Text)
other_pushes m pushes = filter (λ p. not (bytes_eq m p.0)) pushes

-- The live pushes, newest first: an owner is live from a push to its next pop, with its last value.
abbrev pub live_from : List (Text × Text) → List StackEdit → List (Text × Text)
live_from live [] = live
live_from live (Push m value ∷ edits) = live_from ((m, value) ∷ other_pushes m live) edits
live_from live (Pop m ∷ edits) = live_from (other_pushes m live) edits

-- the live pushes of the edits, from none
abbrev pub live : List StackEdit → List (Text × Text)
live edits = live_from [] edits

-- the items of pushes
abbrev pub items_of : List (Text × Text) → List OwnedValue
items_of pushes = map (λ p. (Some p.0, p.1)) pushes

-- A start with live pushes on top: with no live push the start; else an item for each live push, above the items of the
-- start or the bottom that its value makes, and the variable has the newest value.
abbrev pub start_with_pushes : StackState → List (Text × Text) → StackState
start_with_pushes start [] = start
start_with_pushes start (p ∷ ps) = record {
  items = items_of
      (p ∷ ps) ++ items_or_bottom start.items start.value;
  value = Some p.1;
}
