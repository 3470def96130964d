-- The laws of stacks: what runs of pushes and pops leave, and what is read again (own; pushenv of modulefile(5)).
use Rattle.std.specs.Prelude.{◌≡◌, [], ◌∷◌, ◌++◌, List, Option, Some, Ok, true, false, bytes_eq}
use Rattle.std.specs.List.{list_all}
use Rattle.modulename.specs.ModuleName.{is_module_name}
use Rattle.envvars.specs.Texts.{Text, has}
use Rattle.envvars.specs.Names.{stack_name}
use Rattle.envvars.specs.Fields.{without}
use Rattle.envvars.specs.Environment.{Environment, lookup}
use Rattle.envstate.specs.stacks.Stacks.{OwnedValue, StackState, holds, push, pop}
use Rattle.envstate.specs.stacks.StackRuns.{StackEdit, after, live, other_pushes, IsOwnedStart, AreByOtherOwners}
use Rattle.envstate.specs.stacks.StackRuns.{start_with_pushes}
use Rattle.envstate.specs.stacks.StackTexts.{is_writable_stack, items_in, stack_text}
use Rattle.envstate.specs.stacks.StackVariables.{stack_in, with_stack, pushed_value, popped_value, IsStackInOrder}
use Rattle.envstate.specs.stacks.StackOrder.{HoldsStack}

-- After pushes and pops by owners that have no item in the start, the state is the start with the live pushes on top.
abbrev pub RunGivesStartWithPushes : Type 0
RunGivesStartWithPushes =
    (start : StackState) (edits : List StackEdit) → IsOwnedStart start → AreByOtherOwners edits start.items
    → after edits start ≡ start_with_pushes start (live edits)

-- Where no push is live, it is the start.
abbrev pub NoneLiveRestores : Type 0
NoneLiveRestores =
    (start : StackState) (edits : List StackEdit) → IsOwnedStart start → AreByOtherOwners edits start.items
    → live edits ≡ [] → after edits start ≡ start

-- A push by an owner without an item in the start adds a live push, in place of the owner's older one.
abbrev pub PushAddsLivePush : Type 0
PushAddsLivePush =
    (start : StackState) (pushes : List (Text × Text)) (owner value : Text) → holds owner start.items ≡ false
    → push (start_with_pushes start pushes) owner value ≡ start_with_pushes start
    ((owner, value) ∷ other_pushes owner pushes)

-- A pop by such an owner removes the owner's live push.
abbrev pub PopEndsLivePush : Type 0
PopEndsLivePush =
    (start : StackState) (pushes : List (Text × Text)) (owner : Text) → IsOwnedStart start
    → holds owner start.items ≡ false
    → pop (start_with_pushes start pushes) owner ≡ start_with_pushes start (other_pushes owner pushes)

-- The text that a stack is written as is read as that stack.
abbrev pub TextIsReadAgain : Type 0
TextIsReadAgain =
    (items : List OwnedValue) → is_writable_stack items ≡ true → items_in (stack_text items) ≡ Some items

-- A stack that is read from a text can be written.
abbrev pub ReadIsWritable : Type 0
ReadIsWritable =
    (t : Option Text) (items : List OwnedValue) → items_in t ≡ Some items → is_writable_stack items ≡ true

-- A stack that is written into an environment is read there.
abbrev pub WrittenIsFound : Type 0
WrittenIsFound =
    (e : Environment) (name : Text) (s : StackState) → is_writable_stack s.items ≡ true
    → stack_in (with_stack e name s) name ≡ Some s

-- After an accepted push the stack of the variable is the one that the push makes.
abbrev pub PushMakes : Type 0
PushMakes =
    (old new : Environment) (name owner value : Text) (s : StackState) → stack_in old name ≡ Some s
    → pushed_value old name owner value ≡ Ok new → stack_in new name ≡ Some (push s owner value)

-- Its text and the variable's value are those of this stack.
abbrev pub PushWrites : Type 0
PushWrites =
    (old new : Environment) (name owner value : Text) (s : StackState) → stack_in old name ≡ Some s
    → pushed_value old name owner value ≡ Ok new → HoldsStack new name (push s owner value)

-- Every other variable is unchanged.
abbrev pub PushLeaves : Type 0
PushLeaves =
    (old new : Environment) (name owner value : Text) → pushed_value old name owner value ≡ Ok new
    → (other : Text) → bytes_eq other name ≡ false → bytes_eq other (stack_name name) ≡ false
    → lookup new other ≡ lookup old other

-- After an accepted pop the stack of the variable is the one that the pop makes.
abbrev pub PopMakes : Type 0
PopMakes =
    (old new : Environment) (name owner : Text) (s : StackState) → stack_in old name ≡ Some s
    → popped_value old name owner ≡ Ok new → stack_in new name ≡ Some (pop s owner)

-- Where the module has a value, the stack's text and the variable's value are those of this stack.
abbrev pub PopWrites : Type 0
PopWrites =
    (old new : Environment) (name owner : Text) (s : StackState) → stack_in old name ≡ Some s
    → holds owner s.items ≡ true → popped_value old name owner ≡ Ok new → HoldsStack new name (pop s owner)

-- Every other variable is unchanged.
abbrev pub PopLeaves : Type 0
PopLeaves =
    (old new : Environment) (name owner : Text) → popped_value old name owner ≡ Ok new → (other : Text)
    → bytes_eq other name ≡ false → bytes_eq other (stack_name name) ≡ false
    → lookup new other ≡ lookup old other

-- An accepted push of a loaded module leaves a stack in order.
abbrev pub PushPreservesOrder : Type 0
PushPreservesOrder =
    (loaded : List Text) (old new : Environment) (name owner value : Text)
    → list_all is_module_name loaded ≡ true → has owner loaded ≡ true → IsStackInOrder loaded old name
    → pushed_value old name owner value ≡ Ok new → IsStackInOrder loaded new name

-- So does an accepted pop, also where the module is no longer loaded.
abbrev pub PopPreservesOrder : Type 0
PopPreservesOrder =
    (loaded : List Text) (old new : Environment) (name owner : Text) → list_all is_module_name loaded ≡ true
    → IsStackInOrder loaded old name → popped_value old name owner ≡ Ok new
    → IsStackInOrder (without owner loaded) new name

-- A stack in order stays in order where one more module is loaded.
abbrev pub MoreLoadedPreservesOrder : Type 0
MoreLoadedPreservesOrder =
    (loaded : List Text) (e : Environment) (name owner : Text) → IsStackInOrder loaded e name
    → IsStackInOrder (loaded ++ owner ∷ []) e name

-- So it does where a module of which it has no item is no longer loaded.
abbrev pub FewerLoadedPreservesOrder : Type 0
FewerLoadedPreservesOrder =
    (loaded : List Text) (e : Environment) (name owner : Text) (s : StackState)
    → list_all is_module_name loaded ≡ true → IsStackInOrder loaded e name → stack_in e name ≡ Some s
    → holds owner s.items ≡ false → IsStackInOrder (without owner loaded) e name
