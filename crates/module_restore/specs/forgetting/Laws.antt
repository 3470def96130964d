-- What holds of environments behind a `forget` (own): they are in order if they were, and nothing else of them differs.
use Rattle.std.specs.Prelude.{◌≡◌, ℕ, Bool, true, false, List, None, Some, Ok}
use Rattle.envvars.specs.Texts.{Text}
use Rattle.envvars.specs.Names.{stack_name}
use Rattle.envvars.specs.Environment.{Environment, lookup}
use Rattle.envstate.specs.Frames.{IsVariableUnchanged}
use Rattle.envstate.specs.Roles.{is_editable}
use Rattle.envstate.specs.loaded_list.Loaded.{Entry, loaded_in, without_entry}
use Rattle.envstate.specs.stacks.StackVariables.{stack_in}
use Rattle.envstate.specs.stacks.Stacks.{StackState, holds}
use Rattle.filetree.specs.Agreement.{Files}
use Rattle.reversal.specs.Starts.{IsInOrder}
use Rattle.reversal.specs.VariableUses.{VariableUse, Pathed}
use Rattle.module_restore.specs.forgetting.Forgets.{Forgets, Forgetting, IsForgotten}

-- no path has a stack
abbrev pub NoPathHasStack : (Text → VariableUse) → Environment → Type 0
NoPathHasStack uses e =
    (v : Text) (delim : ℕ) → is_editable v ≡ true → uses v ≡ Pathed delim → lookup e (stack_name v) ≡ None

-- An environment that is in order by some uses of variables, with no stack of a path, is in order by them behind it.
abbrev pub ForgettingKeepsOrder : Type 0
ForgettingKeepsOrder =
    (settings_stay : Bool) (files : Files) (e : Environment) (names : List Text) (d : Forgetting)
    (uses : Text → VariableUse)
    → Forgets settings_stay files e names (Ok d) → NoPathHasStack uses e → IsInOrder uses e → IsInOrder uses d.env

-- The other modules stay loaded, in their order.
abbrev pub OthersStayLoaded : Type 0
OthersStayLoaded =
    (owner : Text) (e after : Environment) (entries : List Entry) → loaded_in e ≡ Some entries
    → IsForgotten owner e after → loaded_in after ≡ Some (without_entry owner entries)

-- A variable on whose stack the module has no value stays as it is, with its counters and its stack: as a path in order
-- too.
abbrev pub OtherVariablesStay : Type 0
OtherVariablesStay =
    (owner v : Text) (e after : Environment) → IsForgotten owner e after → is_editable v ≡ true
    → ((s : StackState) → stack_in e v ≡ Some s → holds owner s.items ≡ false) → IsVariableUnchanged e after v

-- There is one environment behind it at most.
abbrev pub OneForgetting : Type 0
OneForgetting =
    (owner : Text) (e after other : Environment) → IsForgotten owner e after → IsForgotten owner e other
    → after ≡ other
