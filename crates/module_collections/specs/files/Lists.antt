-- Which collections there are (module(1), savelist).
use Rattle.std.specs.Prelude.{Bool, false, ◌&&◌, ◌||◌, is_some, Option, Some, None}
use Rattle.envvars.specs.Texts.{Text}
use Rattle.module_collections.specs.files.Entries.{Entries, bytes_at, in_folder}
use Rattle.module_collections.specs.files.Names.{is_collection_name}
use Rattle.module_collections.specs.files.Places.{Folders}

-- a path leads to a file
abbrev pub leads_to_file : Entries → Text → Bool
leads_to_file entries path = is_some (bytes_at entries path)

-- a folder has a collection of this name
abbrev pub is_in : Entries → Text → Text → Bool
is_in entries path name = is_collection_name name && leads_to_file entries (in_folder path name)

abbrev pub is_in_some : Entries → Option Text → Text → Bool
is_in_some entries None name = false
is_in_some entries (Some path) name = is_in entries path name

-- one of the folders has
abbrev pub is_listed : Entries → Folders → Text → Bool
is_listed entries folders name = is_in entries folders.own name || is_in_some entries folders.others name
