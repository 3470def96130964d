-- What stands below a directory of modulefiles, and below a folder in it: the names that are modules, and those that
-- the walk through folders goes on with.
use Rattle.std.specs.Prelude.{◌≡◌, ◌⊎◌, Bool, true, false, ◌&&◌, List, [], ◌∷◌, map, filter, Option, Some, None}
use Rattle.std.specs.Prelude.{bytes_eq}
use Rattle.std.specs.List.{list_any}
use Rattle.modulename.specs.ModuleName.{Text, parts, is_module_name}
use Rattle.filetree.specs.Agreement.{Files, Listings}
use Rattle.filetree.specs.Modulefiles.{modulefile, is_module, path_of}
use Rattle.search.specs.Single.{is_single}
use Rattle.search.specs.Candidates.{IsModuleAt, HasEntry}
use Rattle.search.specs.Selections.{is_selected, is_sought}

-- each part is an entry of the folder that is reached by the parts before it
abbrev pub ReachesThrough : Listings → Text → List Text → Type 0
ReachesThrough listings path [] = Unit {0}
ReachesThrough listings path (part ∷ rest) = HasEntry listings path part × ReachesThrough listings
    (path_of path part) rest

-- a module below the directory: a well-spelled name of one to four parts, of a file with the cookie
pub record IsBelow (files : Files) (listings : Listings) (dir name : Text) : Type 0 where
  pub spelled : is_module_name name ≡ true
  pub reaches : ReachesThrough listings dir (parts name)
  pub file : IsModuleAt files (path_of dir name)

-- such a module whose name is selected
abbrev pub IsSelectedBelow : Files → Listings → List Text → Text → Text → Type 0
IsSelectedBelow files listings texts dir name = IsBelow files listings dir name × (is_selected texts name ≡ true)

-- The path of a folder. A folder is given by its name below the directory; the directory itself has none.
abbrev pub folder_path : Text → Option Text → Text
folder_path dir None = dir
folder_path dir (Some prefix) = path_of dir prefix

-- the full name of what stands in a folder
abbrev pub name_below : Option Text → Text → Text
name_below None rest = rest
name_below (Some prefix) rest = path_of prefix rest

-- the parts of the name of a folder
abbrev pub parts_of : Option Text → List Text
parts_of None = []
parts_of (Some prefix) = parts prefix

-- the name is sought, and well spelled
abbrev pub is_sought_name : List Text → Text → Bool
is_sought_name texts name = is_sought texts name && is_module_name name

-- the full names of some entries of a folder, without those that are ill-spelled or not sought
abbrev pub names_in : List Text → Option Text → List Text → List Text
names_in texts prefix entries =
    filter (is_sought_name texts) (map (name_below prefix) (filter is_single entries))

-- the file of a name begins with the cookie
abbrev pub is_module_below : Files → Text → Text → Bool
is_module_below files dir name = is_module (modulefile (files (path_of dir name)))

-- the name is selected, and its file begins with the cookie
abbrev pub is_selected_module : Files → List Text → Text → Text → Bool
is_selected_module files texts dir name = is_selected texts name && is_module_below files dir name

-- a selected and well-spelled full name of a file with the cookie, in a folder or below it
pub record IsUnder (files : Files) (folders : Listings) (texts : List Text) (dir : Text) (prefix : Option Text)
    (name : Text) : Type 0 where
  pub rest : Text
  pub joined : name ≡ name_below prefix rest
  pub spelled : is_module_name name ≡ true
  pub reaches : ReachesThrough folders (folder_path dir prefix) (parts rest)
  pub file : IsModuleAt files (path_of dir name)
  pub selected : is_selected texts name ≡ true

-- a selected file with the cookie that has one of these names, or a module below one of the folders that are listed already
abbrev pub IsInside : Files → Listings → List Text → Text → List Text → List Text → Text → Type 0
IsInside files folders texts dir names done v =
    ((list_any (bytes_eq v) names ≡ true) × (is_selected_module files texts dir v ≡ true))
    ⊎ ((n : Text) × (list_any (bytes_eq n) done ≡ true) × IsUnder files folders texts dir (Some n) v)

-- the path of the file of one of these names
abbrev pub LooksAmong : Text → List Text → Text → Type 0
LooksAmong dir names at = (name : Text) × (list_any (bytes_eq name) names ≡ true) × (at ≡ path_of dir name)

-- each of these texts is one of the others
abbrev pub AreAmong : List Text → List Text → Type 0
AreAmong some all = (v : Text) → list_any (bytes_eq v) some ≡ true → list_any (bytes_eq v) all ≡ true

-- of these names below a directory, those at whose paths a directory is are among these folders
abbrev pub HasAllFolders : Listings → Text → List Text → List Text → Type 0
HasAllFolders listings dir names folders = (n : Text) → list_any (bytes_eq n) names ≡ true
    → list_any (bytes_eq n) folders ≡ false → listings (path_of dir n) ≡ None
