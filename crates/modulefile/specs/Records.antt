-- What an accepted command of a modulefile leaves on record, one for each command of the table of modulefile(5), in
-- every mode.
use Rattle.std.specs.Prelude.{ℕ, Bool, true, false, List, [], flat_map, filter_map, if◌then◌else◌, Option, Some, None}
use Rattle.envvars.specs.Texts.{Text}
use Rattle.modulefile.specs.declared.records.PathEdit.{PathEdit}
use Rattle.modulefile.specs.declared.records.PathEdit.TheVariants.{Front, Back, Remove}

-- What an accepted command leaves on record. The delimiter of a path is a character.
pub data Record : Type 0 where
  -- `setenv VAR value`
  Set : (var : Text) (value : Text) → Record
  -- `unsetenv VAR ?value?`
  Unset : (var : Text) (value : Option Text) → Record
  -- `pushenv VAR value`
  Push : (var : Text) (value : Text) → Record
  -- `prepend-path`, `append-path` and `remove-path VAR value...`: the values, cut at the delimiter
  Path : (edit : PathEdit) (delim : ℕ) (var : Text) (elements : List Text) → Record
  -- `conflict NAME...`
  Conflict : (names : List Text) → Record
  -- `prereq NAME...`, any one of which will do
  Prereq : (names : List Text) → Record
  -- `module-whatis WORD...`, the words joined by spaces
  Whatis : (text : Text) → Record

-- the variable that a record names
abbrev pub variable_of : Record → Option Text
variable_of (Set var value) = Some var
variable_of (Unset var value) = Some var
variable_of (Push var value) = Some var
variable_of (Path edit delim var xs) = Some var
variable_of (Conflict names) = None
variable_of (Prereq names) = None
variable_of (Whatis text) = None

-- A path command adds its elements, at the front or at the back, or else it removes them.
abbrev pub adds_elements : PathEdit → Bool
adds_elements Front = true
adds_elements Back = true
adds_elements Remove = false

-- the path variable that a record adds elements to, and these
abbrev pub added_elements : Record → Option (Text × List Text)
added_elements (Set var value) = None
added_elements (Unset var value) = None
added_elements (Push var value) = None
added_elements (Path edit delim var xs) = if adds_elements edit then Some (var, xs) else None
added_elements (Conflict names) = None
added_elements (Prereq names) = None
added_elements (Whatis text) = None

-- the names of a `conflict`; other records have none
abbrev pub conflicts_of : Record → List Text
conflicts_of (Conflict names) = names
conflicts_of r = []

-- the alternatives of a `prereq`
abbrev pub prereqs_of : Record → Option (List Text)
prereqs_of (Prereq names) = Some names
prereqs_of r = None

-- the text of a `module-whatis`
abbrev pub description_of : Record → Option Text
description_of (Whatis text) = Some text
description_of r = None

-- the names that the records are in conflict with, in the order of their mention
abbrev pub conflict_names : List Record → List Text
conflict_names rs = flat_map conflicts_of rs

-- the alternatives of each `prereq`
abbrev pub prereq_groups : List Record → List (List Text)
prereq_groups rs = filter_map prereqs_of rs

-- the texts of each `module-whatis`
abbrev pub whatis_texts : List Record → List Text
whatis_texts rs = filter_map description_of rs
