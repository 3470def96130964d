-- Default files of a site that aren't read (own): those that stand in a directory of MODULEPATH itself, above each folder.
use Rattle.std.specs.Prelude.{Bool, false, if◌then◌else◌, List, [], ◌∷◌, codes, flat_map, Option, Some, None}
use Rattle.envvars.specs.Texts.{Text, has}
use Rattle.filetree.specs.Agreement.{Listings}
use Rattle.filetree.specs.Modulefiles.{path_of}

-- the name of a default file
abbrev pub default_file : Text
default_file = codes ".modulerc"

-- the directory, if it is there, has an entry of this name
abbrev pub has_default_file : Option (List Text) → Bool
has_default_file None = false
has_default_file (Some names) = has default_file names

-- its path, if it is there
abbrev pub default_file_in : Bool → Text → List Text
default_file_in there dir = if there then path_of dir default_file ∷ [] else []

-- The paths of the default files in these directories, in their order.
abbrev pub unread_among : Listings → List Text → List Text
unread_among listings dirs = flat_map (λ dir. default_file_in (has_default_file (listings dir)) dir) dirs
