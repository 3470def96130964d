-- The laws of whole environments: which variables an edit may touch, what it leaves unchanged, and that one state is
-- written in one way (own).
use Rattle.std.specs.Prelude.{◌≡◌, ◌≢◌, ℕ, true, false, List, [], ◌∷◌, ◌++◌, map, bytes_eq, Option, Some, None, Ok}
use Rattle.std.specs.List.{list_all}
use Rattle.modulename.specs.ModuleName.{is_module_name}
use Rattle.envvars.specs.Texts.{Text, has}
use Rattle.envvars.specs.Fields.{without, are_distinct}
use Rattle.envvars.specs.Names.{share_name, stack_name, name_reason}
use Rattle.envvars.specs.Environment.{Environment, lookup, with_value}
use Rattle.envstate.specs.paths.PathVariables.{path_in, added_path, dropped_path}
use Rattle.envstate.specs.paths.PathOrder.{IsPathInOrder}
use Rattle.envstate.specs.declared.paths.adding.End.{End}
use Rattle.envstate.specs.stacks.Stacks.{StackState, holds}
use Rattle.envstate.specs.stacks.StackRuns.{IsOwnedStart, start_with_pushes}
use Rattle.envstate.specs.stacks.StackVariables.{stack_in, pushed_value, popped_value, is_loaded_owner, IsStackInOrder}
use Rattle.envstate.specs.loaded_list.LoadedTexts.{names_variable, files_variable, conflicts_variable, prereqs_variable}
use Rattle.envstate.specs.loaded_list.Loaded.{Entry, names_of, is_path, loaded_in, AreLoadedInOrder, with_conflicts_once}
use Rattle.envstate.specs.loaded_list.Loaded.{without_entry, added_loaded, dropped_loaded}
use Rattle.envstate.specs.Roles.{role_of, is_editable, IsNameOf}
use Rattle.envstate.specs.Roles.VariableRole.{Variable, Counters, Stack, LoadedNames, LoadedFiles, LoadedConflicts}
use Rattle.envstate.specs.Roles.VariableRole.{LoadedPrereqs, Other}
use Rattle.envstate.specs.Frames.{OnlyAmong, loaded_names, EditsPath, EditsStack, EditsVariable, IsVariableUnchanged}
use Rattle.envstate.specs.Frames.{AreLoadedUnchanged}

-- names

-- Each name is the one with its role.
abbrev pub NamesHaveRoles : Type 0
NamesHaveRoles = (n : Text) → IsNameOf n (role_of n)

-- The name of a variable that modulefiles may edit, and those of its counters and of its stack, have these roles.
pub record HasRoles (v : Text) : Type 0 where
  pub variable : role_of v ≡ Variable v
  pub counters : role_of (share_name v) ≡ Counters v
  pub stack : role_of (stack_name v) ≡ Stack v

-- So it is for every variable that modulefiles may edit.
abbrev pub VariablesHaveRoles : Type 0
VariablesHaveRoles = (v : Text) → is_editable v ≡ true → HasRoles v

-- The four variables of the loaded modules have their roles.
pub record LoadedHaveRoles : Type 0 where
  pub names : role_of names_variable ≡ LoadedNames
  pub files : role_of files_variable ≡ LoadedFiles
  pub conflicts : role_of conflicts_variable ≡ LoadedConflicts
  pub prereqs : role_of prereqs_variable ≡ LoadedPrereqs

-- Names with different roles are different.
abbrev pub RolesSeparateNames : Type 0
RolesSeparateNames = (m n : Text) → role_of m ≢ role_of n → bytes_eq m n ≡ false

-- Modulefiles may edit a variable exactly where there is no error for its name.
abbrev pub EditableHasNoReason : Type 0
EditableHasNoReason =
    (name : Text) → (is_editable name ≡ true → name_reason name ≡ None) × (name_reason name ≡ None
    → is_editable name ≡ true)

-- Accepted edits touch what edits of their kind may touch.

abbrev pub AddEditsPath : Type 0
AddEditsPath =
    (old new : Environment) (name : Text) (delim : ℕ) (xs : List Text) (end : End)
    → added_path old name delim xs end ≡ Ok new → EditsPath old new name

abbrev pub DropEditsPath : Type 0
DropEditsPath =
    (old new : Environment) (name : Text) (delim : ℕ) (xs : List Text)
    → dropped_path old name delim xs ≡ Ok new → EditsPath old new name

abbrev pub PushEditsStack : Type 0
PushEditsStack =
    (old new : Environment) (name owner value : Text) → pushed_value old name owner value ≡ Ok new
    → EditsStack old new name

abbrev pub PopEditsStack : Type 0
PopEditsStack =
    (old new : Environment) (name owner : Text) → popped_value old name owner ≡ Ok new → EditsStack old new name

-- Setting or unsetting a variable touches neither its counters nor its stack.
abbrev pub SetEditsVariable : Type 0
SetEditsVariable =
    (e : Environment) (name : Text) (value : Option Text) → is_editable name ≡ true
    → EditsPath e (with_value e name value) name × EditsStack e (with_value e name value) name

abbrev pub AddEditsLoaded : Type 0
AddEditsLoaded =
    (old new : Environment) (entry : Entry) → added_loaded old entry ≡ Ok new → OnlyAmong old new loaded_names

abbrev pub DropEditsLoaded : Type 0
DropEditsLoaded =
    (old new : Environment) (name : Text) → dropped_loaded old name ≡ Ok new → OnlyAmong old new loaded_names

-- What edits leave unchanged.

-- An edit of a path variable is an edit of the variable, and leaves its stack unchanged.
abbrev pub PathLeavesStack : Type 0
PathLeavesStack =
    (old new : Environment) (name : Text) → EditsPath old new name
    → EditsVariable old new name × (lookup new (stack_name name) ≡ lookup old (stack_name name))

-- An edit of a stack is an edit of the variable, and leaves its counters unchanged.
abbrev pub StackLeavesCounters : Type 0
StackLeavesCounters =
    (old new : Environment) (name : Text) → EditsStack old new name
    → EditsVariable old new name × (lookup new (share_name name) ≡ lookup old (share_name name))

-- An edit of a variable leaves every other one unchanged.
abbrev pub EditPreservesOthers : Type 0
EditPreservesOthers =
    (old new : Environment) (name other : Text) → EditsVariable old new name
    → is_editable other ≡ true → bytes_eq other name ≡ false → IsVariableUnchanged old new other

-- An edit of a variable leaves the loaded modules unchanged.
abbrev pub EditPreservesLoaded : Type 0
EditPreservesLoaded = (old new : Environment) (name : Text) → EditsVariable old new name → AreLoadedUnchanged old new

-- An edit of the loaded modules leaves every variable unchanged that modulefiles may edit.
abbrev pub LoadedEditPreservesVariables : Type 0
LoadedEditPreservesVariables =
    (old new : Environment) (name : Text) → OnlyAmong old new loaded_names → is_editable name ≡ true
    → IsVariableUnchanged old new name

-- No edit of a variable touches a name whose role is Other.
abbrev pub EditsLeaveRest : Type 0
EditsLeaveRest =
    (old new : Environment) (name other : Text) → EditsVariable old new name → role_of other ≡ Other
    → lookup new other ≡ lookup old other

-- Nor does an edit of the loaded modules.
abbrev pub LoadedLeavesRest : Type 0
LoadedLeavesRest =
    (old new : Environment) (other : Text) → OnlyAmong old new loaded_names → role_of other ≡ Other
    → lookup new other ≡ lookup old other

-- Stacks in order.

-- the state is that of the stack, the law of stacks applies to it as a start, and its owners are loaded
pub record IsStartOf (loaded : List Text) (e : Environment) (name : Text) (s : StackState) : Type 0 where
  pub found : stack_in e name ≡ Some s
  pub owned : IsOwnedStart s
  pub owners : list_all (λ item. is_loaded_owner loaded item.0) s.items ≡ true

-- A stack in order has such a state.
abbrev pub OrderGivesStart : Type 0
OrderGivesStart =
    (loaded : List Text) (e : Environment) (name : Text) → list_all is_module_name loaded ≡ true
    → IsStackInOrder loaded e name → (s : StackState) × IsStartOf loaded e name s

-- An owner without an item in the start and without a live push has no item in the start with the live pushes on top.
abbrev pub OtherOwnerIsAbsent : Type 0
OtherOwnerIsAbsent =
    (start : StackState) (pushes : List (Text × Text)) (owner : Text) → holds owner start.items ≡ false
    → has owner (map (λ p. p.0) pushes) ≡ false → holds owner (start_with_pushes start pushes).items ≡ false

-- One state is written in one way.

-- the variable and its counters are the same in both environments
pub record SamePath (d e : Environment) (name : Text) : Type 0 where
  pub elements : lookup d name ≡ lookup e name
  pub counters : lookup d (share_name name) ≡ lookup e (share_name name)

-- A path variable in order with the same state in both is the same.
abbrev pub PathTextsAreUnique : Type 0
PathTextsAreUnique =
    (d e : Environment) (name : Text) (delim : ℕ) → IsPathInOrder d name delim → IsPathInOrder e name delim
    → path_in d name delim ≡ path_in e name delim → SamePath d e name

-- the variable and its stack are the same in both environments
pub record SameStack (d e : Environment) (name : Text) : Type 0 where
  pub value : lookup d name ≡ lookup e name
  pub stack : lookup d (stack_name name) ≡ lookup e (stack_name name)

-- A stack in order with the same state in both is the same.
abbrev pub StackTextsAreUnique : Type 0
StackTextsAreUnique =
    (loaded others : List Text) (d e : Environment) (name : Text)
    → list_all is_module_name loaded ≡ true → list_all is_module_name others ≡ true
    → IsStackInOrder loaded d name → IsStackInOrder others e name
    → stack_in d name ≡ stack_in e name → SameStack d e name

-- the four variables of the loaded modules are the same in both environments
pub record SameLoaded (d e : Environment) : Type 0 where
  pub names : lookup d names_variable ≡ lookup e names_variable
  pub files : lookup d files_variable ≡ lookup e files_variable
  pub conflicts : lookup d conflicts_variable ≡ lookup e conflicts_variable
  pub prereqs : lookup d prereqs_variable ≡ lookup e prereqs_variable

-- A list in order with the same entries in both is the same.
abbrev pub ListTextsAreUnique : Type 0
ListTextsAreUnique =
    (d e : Environment) → AreLoadedInOrder d → AreLoadedInOrder e → loaded_in d ≡ loaded_in e → SameLoaded d e

-- The list of loaded modules.

-- An add puts the name of its entry at the end of the names.
abbrev pub AddNames : Type 0
AddNames =
    (entries : List Entry) (entry : Entry) → names_of (entries ++ with_conflicts_once entry ∷ [])
    ≡ names_of entries ++ entry.name ∷ []

-- A drop removes the name of its module from the names.
abbrev pub DropNames : Type 0
DropNames =
    (entries : List Entry) (name : Text) → names_of (without_entry name entries) ≡ without name (names_of entries)

-- each name is well spelled and there once, and no path is empty or has a colon
pub record AreSound (entries : List Entry) : Type 0 where
  pub names : list_all is_module_name (names_of entries) ≡ true
  pub once : are_distinct (names_of entries) ≡ true
  pub paths : list_all (λ x. is_path x.path) entries ≡ true

-- A list in order is read, and is sound.
abbrev pub OrderGivesList : Type 0
OrderGivesList =
    (e : Environment) → AreLoadedInOrder e → (entries : List Entry) × (loaded_in e ≡ Some entries) × AreSound entries

-- After any accepted drop the list no longer has the module.
abbrev pub DropLeavesList : Type 0
DropLeavesList =
    (old new : Environment) (name : Text) (entries : List Entry) → loaded_in old ≡ Some entries
    → dropped_loaded old name ≡ Ok new → loaded_in new ≡ Some (without_entry name entries)
