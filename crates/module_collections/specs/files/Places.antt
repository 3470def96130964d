-- Where collections lie (module(1), FILES): in the user's folder, in that of Environment Modules, or the site's own.
use Rattle.std.specs.Prelude.{Bool, false, [], codes, bytes_eq, if◌then◌else◌, Option, Some, None, Result, Ok, Err}
use Rattle.std.specs.Option.{option_map}
use Rattle.envvars.specs.Texts.{Text}
use Rattle.envvars.specs.Environment.{Environment, lookup}
use Rattle.module_collections.specs.files.Entries.{Entries, in_folder, is_absolute, is_there}
use Rattle.module_collections.specs.files.Names.{is_collection_name}
use Rattle.module_collections.specs.files.Faults.{FileReason, no_home, bad_name, missing}

-- the user's folder, and that of Environment Modules, where there is a home
pub record Folders : Type 0 where
  pub own : Text
  pub others : Option Text

-- the names of the folders: this program's below the settings and below the home, and that of Environment Modules
abbrev pub own_name : Text
own_name = codes "modulecmd"

abbrev pub own_name_at_home : Text
own_name_at_home = codes ".config/modulecmd"

abbrev pub others_name : Text
others_name = codes ".module"

-- a variable's text, if it isn't empty
abbrev pub filled : Option Text → Option Text
filled None = None
filled (Some text) = if bytes_eq text [] then None else Some text

-- a variable's text, if it is an absolute path
abbrev pub absolute : Option Text → Option Text
absolute None = None
absolute (Some text) = if is_absolute text then Some text else None

-- the folders by the folder of settings, which is that of the home where none is named, and by the home
abbrev pub folders_by : Option Text → Option Text → Result Folders FileReason
folders_by (Some settings) home = Ok (record {
  own = in_folder settings own_name;
  others = option_map (λ path. in_folder path others_name) home;
})
folders_by None (Some home) = Ok (record {
  own = in_folder home own_name_at_home;
  others = Some (in_folder home others_name);
})
folders_by None None = Err no_home

-- the folders by the environment
abbrev pub folders_of : Environment → Result Folders FileReason
folders_of env = folders_by (absolute (lookup env (codes "XDG_CONFIG_HOME"))) (filled (lookup env (codes "HOME")))

-- the path in the folder of Environment Modules, if something is there
abbrev pub elsewhere : Entries → Option Text → Text → Result Text FileReason
elsewhere entries None name = Err (missing name)
elsewhere entries (Some path) name =
    if is_there (entries (in_folder path name)) then Ok (in_folder path name) else Err (missing name)

-- the path of the collection of a name: the user's where something is there, else that of Environment Modules
abbrev pub place_of : Entries → Folders → Text → Result Text FileReason
place_of entries folders name =
    if is_there (entries (in_folder folders.own name)) then Ok (in_folder folders.own name)
    else elsewhere entries folders.others name

-- a word is the path of the site's own collection
abbrev pub is_site : Option Text → Text → Bool
is_site None word = false
is_site (Some path) word = bytes_eq path word

-- the folders for a name that a collection can have
abbrev pub folders_for : Environment → Text → Result Folders FileReason
folders_for env name = if is_collection_name name then folders_of env else Err (bad_name name)

-- with the folders, or the reason why there are none
abbrev pub in_folders : {X : Type 0} → Result Folders FileReason → (Folders → Result X FileReason) → Result X FileReason
in_folders (Err reason) more = Err reason
in_folders (Ok folders) more = more folders

-- the path of the site's own collection, where a word is that, or of the collection of a name
abbrev pub found : Entries → Environment → Option Text → Text → Result Text FileReason
found entries env site word =
    if is_site site word then Ok word
    else in_folders (folders_for env word) (λ folders. place_of entries folders word)
