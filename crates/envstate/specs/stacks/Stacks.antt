-- The stack of a variable, and what pushing and popping make of it (modulefile(5), pushenv).
use Rattle.std.specs.Prelude.{Bool, true, false, not, List, [], ◌∷◌, filter, bytes_eq, Option, Some, None}
use Rattle.std.specs.Prelude.{if◌then◌else◌}
use Rattle.std.specs.List.{list_any}
use Rattle.envvars.specs.Texts.{Text}

-- an item: its owner, or none for the bottom, and a value
abbrev pub OwnedValue : Type 0
OwnedValue = Option Text × Text

-- the items, the newest first (the empty list is no stack), and the variable's value
pub record StackState : Type 0 where
  pub items : List OwnedValue
  pub value : Option Text

-- whether the owner is this one
abbrev pub is_owner : Text → Option Text → Bool
is_owner m None = false
is_owner m (Some n) = bytes_eq m n

-- whether there is an owner
abbrev pub has_owner : Option Text → Bool
has_owner None = false
has_owner (Some n) = true

-- whether the owner has one of the items
abbrev pub holds : Text → List OwnedValue → Bool
holds m items = list_any (λ item. is_owner m item.0) items

-- the items without the owner's
abbrev pub without_owner : Text → List OwnedValue → List OwnedValue
without_owner m items = filter (λ item. not (is_owner m item.0)) items

-- the value of the first item, which the variable has
abbrev pub visible : List OwnedValue → Option Text
visible [] = None
visible (item ∷ items) = Some item.1

-- the bottom that the variable's value makes
abbrev pub bottom : Option Text → List OwnedValue
bottom None = []
bottom (Some value) = (None, value) ∷ []

-- the items that a push is put on: those of the stack, and where there is none the bottom
abbrev pub items_or_bottom : List OwnedValue → Option Text → List OwnedValue
items_or_bottom [] value = bottom value
items_or_bottom (item ∷ items) value = item ∷ items

-- the owner's item is put on top, and an older item of the same owner is removed
abbrev pub push : StackState → Text → Text → StackState
push s m value = record {
  items = (Some m, value) ∷ without_owner m
      (items_or_bottom s.items s.value);
  value = Some value;
}

-- the items after a pop: none where no item has an owner, since a bottom alone is no stack
abbrev pub without_lone_bottom : List OwnedValue → List OwnedValue
without_lone_bottom items = if list_any (λ item. has_owner item.0) items then items else []

-- whether the first item is the owner's
abbrev pub on_top : Text → List OwnedValue → Bool
on_top m [] = false
on_top m (item ∷ items) = is_owner m item.0

-- the owner's item is removed; the variable's value changes where the item was on top
abbrev pub pop : StackState → Text → StackState
pop s m =
    if holds m s.items
    then record {
      items = without_lone_bottom (without_owner m s.items);
      value = if on_top m s.items then visible (without_owner m s.items) else s.value;
    }
    else s
