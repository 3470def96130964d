-- The walk over all files below a directory: for this crate's own contracts alone.
use Rattle.std.specs.Prelude.{◌≡◌, ◌⊎◌, ◌↔◌, ℕ, zero, suc, Bool, true, false, ◌&&◌, if◌then◌else◌, List, [], ◌∷◌}
use Rattle.std.specs.Prelude.{flat_map, Option, Some, None, string_bytes}
use Rattle.std.specs.declared.alloc.Global.{Global}
use Rattle.std.specs.declared.string.String.{String}
use Rattle.std.specs.BTreeSet.{BTreeSet, contains_text}
use Rattle.modulename.specs.ModuleName.{Text, is_module_name}
use Rattle.filetree.specs.Agreement.{Files, Listings}
use Rattle.filetree.specs.Modulefiles.{FileContent, absent, no_cookie, not_utf8, script, modulefile, path_of}
use Rattle.search.specs.Single.{is_single}
use Rattle.audit_certificate.specs.RecordUses.{IsAmong}

-- a file is there, without the cookie
abbrev pub lacks_cookie : FileContent → Bool
lacks_cookie absent = false
lacks_cookie no_cookie = true
lacks_cookie not_utf8 = false
lacks_cookie (script text) = false

-- the same of what is at a path
abbrev pub lacks_cookie_at : Files → Text → Bool
lacks_cookie_at files path = lacks_cookie (modulefile (files path))

-- the entry can be a part of a name
abbrev pub is_part_name : Text → Bool
is_part_name entry = is_single entry && is_module_name entry

-- the names in a directory, if one is there
abbrev pub names_of : Option (List Text) → List Text
names_of None = []
names_of (Some names) = names

-- the path of an entry of a folder, if it can be a part of a name
abbrev pub path_by : Text → Text → List Text
path_by folder entry = if is_part_name entry then path_of folder entry ∷ [] else []

-- the same by the entry as the code has it
abbrev pub path_by_entry : Text → String Global → List Text
path_by_entry folder entry = path_by folder (string_bytes entry)

-- the paths of the entries of a folder that can be parts of names
abbrev pub paths_in : Listings → Text → List Text
paths_in listings folder = flat_map (path_by folder) (names_of (listings folder))

-- the path is below the folder, by so many levels of such entries
abbrev pub IsBelowBy : Listings → ℕ → Text → Text → Type 0
IsBelowBy listings zero folder path = ⊥
IsBelowBy listings (suc n) folder path =
    (next : Text) × IsAmong next (paths_in listings folder) × ((path ≡ next) ⊎ IsBelowBy listings n next path)

-- the path is one of these, or is below one of them by so many levels
abbrev pub IsInBy : Listings → ℕ → List Text → Text → Type 0
IsInBy listings n paths path =
    (next : Text) × IsAmong next paths × ((path ≡ next) ⊎ IsBelowBy listings n next path)

-- the same of a file without the cookie
abbrev pub IsFoundBelow : Files → Listings → ℕ → Text → Text → Type 0
IsFoundBelow files listings n folder path = IsBelowBy listings n folder path × (lacks_cookie_at files path ≡ true)

-- the walk looks at this path: that of the folder, and those below it
abbrev pub LooksAtBelow : Listings → ℕ → Text → Text → Type 0
LooksAtBelow listings n folder at = (at ≡ folder) ⊎ IsBelowBy listings n folder at

-- the set has the text
abbrev pub Has : BTreeSet (String Global) → Text → Type 0
Has found path = contains_text found path ≡ true

-- the set has those texts more of which this holds, and no others
abbrev pub Adds : BTreeSet (String Global) → BTreeSet (String Global) → (Text → Type 0) → Type 0
Adds old new P = (path : Text) → Has new path ↔ (Has old path ⊎ P path)

-- the same of one of these directories
abbrev pub LooksAtAny : Listings → List Text → Text → Type 0
LooksAtAny listings dirs at = (dir : Text) × IsAmong dir dirs × LooksAtBelow listings 4 dir at
