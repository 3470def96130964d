-- What an edit leaves unchanged (own).
use Rattle.std.specs.Prelude.{◌≡◌, ℕ, true, false, List, [], ◌∷◌}
use Rattle.envvars.specs.Texts.{Text, has}
use Rattle.envvars.specs.Names.{share_name, stack_name}
use Rattle.envvars.specs.Environment.{Environment, lookup}
use Rattle.envstate.specs.paths.PathVariables.{path_in}
use Rattle.envstate.specs.paths.PathOrder.{IsPathInOrder}
use Rattle.envstate.specs.stacks.StackVariables.{stack_in, IsStackInOrder}
use Rattle.envstate.specs.loaded_list.LoadedTexts.{names_variable, files_variable, conflicts_variable, prereqs_variable}
use Rattle.envstate.specs.loaded_list.Loaded.{loaded_in, AreLoadedInOrder}
use Rattle.envstate.specs.Roles.{is_editable}

-- every variable but these is unchanged
abbrev pub OnlyAmong : Environment → Environment → List Text → Type 0
OnlyAmong old new names = (q : Text) → has q names ≡ false → lookup new q ≡ lookup old q

-- the variables that an edit of a path variable may touch
abbrev pub path_names : Text → List Text
path_names name = name ∷ share_name name ∷ []

-- the variables that an edit of a stack may touch
abbrev pub stack_names : Text → List Text
stack_names name = name ∷ stack_name name ∷ []

-- the variables that any edit of a variable may touch
abbrev pub variable_names : Text → List Text
variable_names name = name ∷ share_name name ∷ stack_name name ∷ []

-- the variables that an edit of the loaded modules may touch
abbrev pub loaded_names : List Text
loaded_names = names_variable ∷ files_variable ∷ conflicts_variable ∷ prereqs_variable ∷ []

-- an edit of a path variable: modulefiles may edit the variable, and nothing but it and its counters is touched
pub record EditsPath (old new : Environment) (name : Text) : Type 0 where
  pub editable : is_editable name ≡ true
  pub only : OnlyAmong old new (path_names name)

-- an edit of a stack: modulefiles may edit the variable, and nothing but it and its stack is touched
pub record EditsStack (old new : Environment) (name : Text) : Type 0 where
  pub editable : is_editable name ≡ true
  pub only : OnlyAmong old new (stack_names name)

-- an edit of a variable: modulefiles may edit it, and nothing but it, its counters and its stack is touched
pub record EditsVariable (old new : Environment) (name : Text) : Type 0 where
  pub editable : is_editable name ≡ true
  pub only : OnlyAmong old new (variable_names name)

-- a variable is unchanged, as a path variable and as a stack, and is in order where it was
pub record IsVariableUnchanged (old new : Environment) (name : Text) : Type 0 where
  pub value : lookup new name ≡ lookup old name
  pub counters : lookup new (share_name name) ≡ lookup old (share_name name)
  pub stack_text : lookup new (stack_name name) ≡ lookup old (stack_name name)
  pub path : (delim : ℕ) → path_in new name delim ≡ path_in old name delim
  pub path_order : (delim : ℕ) → IsPathInOrder old name delim → IsPathInOrder new name delim
  pub stack : stack_in new name ≡ stack_in old name
  pub stack_order : (loaded : List Text) → IsStackInOrder loaded old name → IsStackInOrder loaded new name

-- the loaded modules are unchanged, and are in order where they were
pub record AreLoadedUnchanged (old new : Environment) : Type 0 where
  pub list : loaded_in new ≡ loaded_in old
  pub order : AreLoadedInOrder old → AreLoadedInOrder new
