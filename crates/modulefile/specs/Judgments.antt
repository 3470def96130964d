-- What forbids a record, whatever environment it finds (own): first its variable's name, then a protected variable,
-- then a value, a delimiter or an element; of names of modules the first that is ill-spelled.
use Rattle.std.specs.Prelude.{Bool, List, [], ◌∷◌, if◌then◌else◌, is_none, Option, Some, None}
use Rattle.std.specs.List.{list_all}
use Rattle.std.specs.Option.{option_map, option_or}
use Rattle.modulename.specs.ModuleName.{is_module_name}
use Rattle.envvars.specs.Texts.{Text}
use Rattle.envvars.specs.Names.{is_nul_free, name_reason}
use Rattle.envvars.specs.Reasons.{EnvReason, bad_value}
use Rattle.envstate.specs.paths.PathVariables.{path_reason}
use Rattle.modulefile.specs.Records.{Record, Set, Unset, Push, Path, Conflict, Prereq, Whatis}

-- why a record has no effect
pub data RecordReason : Type 0 where
  bad_edit : EnvReason → RecordReason
  bad_module_name : (name : Text) → RecordReason

-- the refusal of the variable's name, and then of values with NUL
abbrev pub value_reason : Text → List Text → Option EnvReason
value_reason var values = option_or (name_reason var) (if list_all is_nul_free values then None
    else Some (bad_value var))

-- a value or none
abbrev pub values_of : Option Text → List Text
values_of None = []
values_of (Some value) = value ∷ []

-- the first name that is ill-spelled
abbrev pub names_reason : List Text → Option RecordReason
names_reason [] = None
names_reason (name ∷ names) = if is_module_name name then names_reason names else Some (bad_module_name name)

-- why the record is forbidden, if it is
abbrev pub record_reason : Record → Option RecordReason
record_reason (Set var value) = option_map bad_edit (value_reason var (value ∷ []))
record_reason (Unset var value) = option_map bad_edit (value_reason var (values_of value))
record_reason (Push var value) = option_map bad_edit (value_reason var (value ∷ []))
record_reason (Path edit delim var xs) = option_map bad_edit (path_reason var delim xs)
record_reason (Conflict names) = names_reason names
record_reason (Prereq names) = names_reason names
record_reason (Whatis text) = None

-- a record that nothing forbids
abbrev pub is_allowed : Record → Bool
is_allowed r = is_none (record_reason r)
