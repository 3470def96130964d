-- The role of a variable by its name: edited by modulefiles, or holding the tool's own state (own; module(1),
-- ENVIRONMENT).
use Rattle.std.specs.Prelude.{◌≡◌, Bool, true, not, ◌&&◌, ◌==◌, [], ◌∷◌, bytes_eq, codes, Option, Some, None}
use Rattle.std.specs.Prelude.{if◌then◌else◌}
use Rattle.envvars.specs.Texts.{Text}
use Rattle.envvars.specs.Names.{is_variable_name, is_protected, share_name, stack_name}
use Rattle.envstate.specs.loaded_list.LoadedTexts.{names_variable, files_variable, conflicts_variable, prereqs_variable}

-- a variable that modulefiles may edit
abbrev pub is_editable : Text → Bool
is_editable name = not (is_protected name) && is_variable_name name

-- the role of a name: a variable that modulefiles may edit, the counters or the stack of one, one of the four variables
-- of the loaded modules, or something else
pub data VariableRole : Type 0 where
  Variable : (name : Text) → VariableRole
  Counters : (name : Text) → VariableRole
  Stack : (name : Text) → VariableRole
  LoadedNames : VariableRole
  LoadedFiles : VariableRole
  LoadedConflicts : VariableRole
  LoadedPrereqs : VariableRole
  Other : VariableRole

-- the rest of a text after a prefix; none where the text doesn't begin with the prefix
abbrev pub after_prefix : Text → Text → Option Text
after_prefix [] n = Some n
after_prefix (c ∷ prefix) [] = None
after_prefix (c ∷ prefix) (k ∷ n) = if c == k then after_prefix prefix n else None

-- the role, where it is that of a variable that modulefiles may edit, else Other
abbrev pub role_if_editable : Text → VariableRole → VariableRole
role_if_editable name role = if is_editable name then role else Other

-- the role of a name that modulefiles may not edit, by its rests after the prefixes of counters and of stacks
abbrev pub protected_role : Text → Option Text → Option Text → VariableRole
protected_role n (Some v) o = role_if_editable v (Counters v)
protected_role n None (Some v) = role_if_editable v (Stack v)
protected_role n None None =
    if bytes_eq n names_variable then LoadedNames
    else if bytes_eq n files_variable then LoadedFiles
    else if bytes_eq n conflicts_variable then LoadedConflicts
    else if bytes_eq n prereqs_variable then LoadedPrereqs
    else Other

-- the role of a name
abbrev pub role_of : Text → VariableRole
role_of n =
    if is_editable n then Variable n else protected_role n (after_prefix (codes "__MODULES_SHARE_") n) (after_prefix
    (codes "__MODULES_PUSHENV_") n)

-- the name is the one with this role
abbrev pub IsNameOf : Text → VariableRole → Type 0
IsNameOf n (Variable v) = (is_editable v ≡ true) × (n ≡ v)
IsNameOf n (Counters v) = (is_editable v ≡ true) × (n ≡ share_name v)
IsNameOf n (Stack v) = (is_editable v ≡ true) × (n ≡ stack_name v)
IsNameOf n LoadedNames = n ≡ names_variable
IsNameOf n LoadedFiles = n ≡ files_variable
IsNameOf n LoadedConflicts = n ≡ conflicts_variable
IsNameOf n LoadedPrereqs = n ≡ prereqs_variable
IsNameOf n Other = Unit {0}
