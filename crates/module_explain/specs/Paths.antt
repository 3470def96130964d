-- What is said of a path in place of a module's name (own). Only texts are compared.
use Rattle.std.specs.Prelude.{Bool, List, ◌++◌, codes, find, if◌then◌else◌, is_some, nat_eq, Option, Some, None}
use Rattle.std.specs.List.{starts_with}
use Rattle.envstate.specs.Roles.{after_prefix}
use Rattle.envvars.specs.Texts.{Text}
use Rattle.modulename.specs.ModuleName.{is_module_name}

-- it begins with a slash
abbrev pub is_path : Text → Bool
is_path name = starts_with nat_eq name (codes "/")

-- what follows a slash
abbrev pub behind_slash : Option Text → Option Text
behind_slash None = None
behind_slash (Some text) = after_prefix (codes "/") text

-- a text that is spelled as a name
abbrev pub if_name : Option Text → Option Text
if_name None = None
if_name (Some text) = if is_module_name text then Some text else None

-- what follows the directory and a slash in the path, if this is spelled as a name
abbrev pub name_below : (path directory : Text) → Option Text
name_below path directory = if_name (behind_slash (after_prefix directory path))

-- there is such a name
abbrev pub is_below : (path directory : Text) → Bool
is_below path directory = is_some (name_below path directory)

-- what is said if no directory that is searched is above a path
abbrev pub elsewhere : Text
elsewhere = codes "A module is named, not its file: \"module use DIRECTORY\", then \"module load NAME\"."

-- what is said of the path of a name below a directory
abbrev pub named_line : (name directory : Text) → Text
named_line name directory =
    codes "A module is named, not its file: \"module load " ++ (name ++ (codes "\", which is below " ++ (directory ++ codes ".")))

abbrev pub line_by : (directory : Text) → Option Text → Text
line_by directory None = elsewhere
line_by directory (Some name) = named_line name directory

abbrev pub line_below : Text → Option Text → Text
line_below path None = elsewhere
line_below path (Some directory) = line_by directory (name_below path directory)

-- What is said of a path, by the first directory below which it is that of a name.
abbrev pub path_line : List Text → Text → Text
path_line directories path = line_below path (find (is_below path) directories)
