-- For the contracts of private functions: values of the code as items and states of stacks.
use Rattle.std.specs.Prelude.{List, map, string_bytes, Option}
use Rattle.std.specs.Option.{option_map}
use Rattle.std.specs.Borrow.{Bor}
use Rattle.std.specs.declared.vec.Vec.{Vec}
use Rattle.std.specs.declared.string.String.{String}
use Rattle.std.specs.declared.alloc.Global.{Global}
use Rattle.envvars.specs.Texts.{Text}
use Rattle.envstate.specs.declared.stacks.texts.StackItem.{StackItem}
use Rattle.envstate.specs.stacks.Stacks.{OwnedValue, StackState}

-- an item of the code as an item of the definitions
abbrev pub item_in : StackItem → OwnedValue
item_in item = (option_map string_bytes item.owner, string_bytes item.value)

-- the items of a vector
abbrev pub items_of_vec : Vec StackItem Global → List OwnedValue
items_of_vec v = map item_in v.items

-- the state of items and a borrowed value
abbrev pub state_of_borrowed : Vec StackItem Global → Option (Bor Text) → StackState
state_of_borrowed items value = record { items = items_of_vec items; value = option_map (λ x. x.now) value }

-- the state of items and an owned value
abbrev pub state_of_owned : List StackItem → Option (String Global) → StackState
state_of_owned items value = record { items = map item_in items; value = option_map string_bytes value }
