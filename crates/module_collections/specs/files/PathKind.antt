-- What the code has of entries, folders and names, as the definitions have it.
use Rattle.std.specs.Prelude.{◌≡◌, string_bytes}
use Rattle.std.specs.Option.{option_map}
use Rattle.envvars.specs.Texts.{Text}
use Rattle.module_collections.specs.files.Entries.{Entry, nothing, file, folder, link, other}
use Rattle.module_collections.specs.files.Places as places
use Rattle.module_collections.specs.declared.files.storage.PathKind.{PathKind}
use Rattle.module_collections.specs.declared.files.storage.PathKind.TheVariants as seen
use Rattle.module_collections.specs.declared.files.folders.Folders.{Folders}
use Rattle.module_collections.specs.declared.files.follow.LinkEnd.{LinkEnd}

-- this was seen of an entry
abbrev pub IsSeen : PathKind → Entry → Type 0
IsSeen seen.Nothing entry = entry ≡ nothing
IsSeen seen.File entry = (bytes : Text) × (entry ≡ file bytes)
IsSeen seen.Folder entry = entry ≡ folder
IsSeen (seen.Link target) entry = entry ≡ link (string_bytes target)
IsSeen seen.Other entry = entry ≡ other

abbrev pub folders_view : Folders → places.Folders
folders_view f = record { own = string_bytes f.own; others = option_map string_bytes f.others }

abbrev pub path_in : LinkEnd → Text
path_in end = string_bytes end.path
