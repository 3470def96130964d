-- Stacks of an environment, and their edits (modulefile(5): pushenv).
use Rattle.std.specs.Prelude.{◌≡◌, ◌⊎◌, Bool, true, ◌&&◌, List, if◌then◌else◌, Option, Some, None, Result, Ok, Err}
use Rattle.std.specs.List.{list_any, list_all}
use Rattle.std.specs.Option.{option_or}
use Rattle.modulename.specs.ModuleName.{is_module_name}
use Rattle.envvars.specs.Texts.{Text, has}
use Rattle.envvars.specs.Names.{stack_name, name_reason, is_nul_free}
use Rattle.envstate.specs.stacks.Stacks.{OwnedValue, StackState, holds, has_owner, visible, push, pop}
use Rattle.envstate.specs.stacks.StackTexts.{items_in, stack_text, is_stack}
use Rattle.envvars.specs.Environment.{Environment, lookup, with_value}
use Rattle.envvars.specs.Reasons.{EnvReason, bad_value, bad_stack, unless}

-- the state of these items and the value, if there are items
abbrev pub stack_from : Option (List OwnedValue) → Option Text → Option StackState
stack_from None value = None
stack_from (Some items) value = Some (record { items = items; value = value })

-- the stack and the value of a variable; none where the text of its stack is no stack
abbrev pub stack_in : Environment → Text → Option StackState
stack_in e name = stack_from (items_in (lookup e (stack_name name))) (lookup e name)

-- the environment with this state written to both variables
abbrev pub with_stack : Environment → Text → StackState → Environment
with_stack e name s = with_value (with_value e name s.value) (stack_name name) (stack_text s.items)

-- the error for the variable's name, else the one for the module's name and the value
abbrev pub push_reason : Text → Text → Text → Option EnvReason
push_reason name owner value =
    option_or (name_reason name)
    (if is_module_name owner && is_nul_free value then None else Some (bad_value name))

-- the error for the variable's name, else the one for the module's name
abbrev pub pop_reason : Text → Text → Option EnvReason
pop_reason name owner = option_or (name_reason name) (if is_module_name owner then None else Some (bad_value name))

-- the environment after a push on the stack that was read, or the error
abbrev pub pushed_on : Environment → Text → Text → Text → Option StackState → Result Environment EnvReason
pushed_on e name owner value None = Err (bad_stack name)
pushed_on e name owner value (Some s) = Ok (with_stack e name (push s owner value))

-- the environment after a push by a module, or the error
abbrev pub pushed_value : Environment → Text → Text → Text → Result Environment EnvReason
pushed_value e name owner value = unless (push_reason name owner value) (pushed_on e name owner value (stack_in e name))

-- the environment after a pop from the stack that was read, or the error; nothing changes where the module has no item
abbrev pub popped_from : Environment → Text → Text → Option StackState → Result Environment EnvReason
popped_from e name owner None = Err (bad_stack name)
popped_from e name owner (Some s) = if holds owner s.items then Ok (with_stack e name (pop s owner)) else Ok e

-- the environment after a pop by a module, or the error
abbrev pub popped_value : Environment → Text → Text → Result Environment EnvReason
popped_value e name owner = unless (pop_reason name owner) (popped_from e name owner (stack_in e name))

-- the owner is a loaded module, or there is none
abbrev pub is_loaded_owner : List Text → Option Text → Bool
is_loaded_owner loaded None = true
is_loaded_owner loaded (Some owner) = has owner loaded

-- a stack as edits write it: an item has an owner, all owners are loaded, the text is the one that its items are
-- written as, and the variable has the value of the first item
pub record IsWrittenStack (loaded : List Text) (e : Environment) (name : Text) : Type 0 where
  pub items : List OwnedValue
  pub valid : is_stack items ≡ true
  pub owned : list_any (λ item. has_owner item.0) items ≡ true
  pub owners : list_all (λ item. is_loaded_owner loaded item.0) items ≡ true
  pub text : lookup e (stack_name name) ≡ stack_text items
  pub value : lookup e name ≡ visible items

-- In order: there is no stack, or one as edits write it.
abbrev pub IsStackInOrder : List Text → Environment → Text → Type 0
IsStackInOrder loaded e name = (lookup e (stack_name name) ≡ None) ⊎ IsWrittenStack loaded e name
