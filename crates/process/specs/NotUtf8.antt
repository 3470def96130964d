-- The variables of a process whose values aren't UTF-8 (own): an environment takes them for unset.
use Rattle.std.specs.Prelude.{◌&&◌, List, [], ◌∷◌, length, nat_lt, Option, Some, None, is_some, if◌then◌else◌}
use Rattle.std.specs.List.{flat_map, position_or_len}
use Rattle.std.specs.Str.{is_utf8}
use Rattle.envvars.specs.Texts.{Text}
use Rattle.envvars.specs.Environment.{Environment, lookup}
use Rattle.envvars.specs.EnvironmentBlock.{entries_of, environment_of, is_equals, name_of}
use Rattle.envvars.specs.Names.{is_variable_name}

-- the bytes as the name of a variable (POSIX XBD 3.235); none where they are no such name
abbrev pub as_name : Text → Option Text
as_name bytes = if is_utf8 bytes && is_variable_name bytes then Some bytes else None

-- the variable that an entry is of; none where it has no '=', or no name before it
abbrev pub variable_in : Text → Option Text
variable_in entry = if nat_lt (position_or_len is_equals entry) (length entry) then as_name (name_of entry) else None

-- the variable, where an environment doesn't have it
abbrev pub if_unset : Environment → Option Text → List Text
if_unset e None = []
if_unset e (Some name) = if is_some (lookup e name) then [] else name ∷ []

-- the variables of entries that an environment doesn't have, in the order of the entries
abbrev pub unset_in : Environment → List Text → List Text
unset_in e entries = flat_map (λ entry. if_unset e (variable_in entry)) entries

-- The variables of a block whose values aren't UTF-8: an entry is of each, and the environment of the block doesn't
-- have it.
abbrev pub not_utf8_in : Text → List Text
not_utf8_in block = unset_in (environment_of block) (entries_of block)
