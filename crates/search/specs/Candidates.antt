-- The versions and the candidates of a name below a directory of modulefiles (module(1), modulefile(5)), and the paths
-- that are looked at for the greatest.
use Rattle.std.specs.Prelude.{◌≡◌, true, List, Some, bytes_eq}
use Rattle.std.specs.List.{list_any}
use Rattle.std.specs.Ordering.{is_le}
use Rattle.modulename.specs.ModuleName.{Text, is_module_name}
use Rattle.modulename.specs.Versions.{version_order}
use Rattle.filetree.specs.Agreement.{Files, Listings}
use Rattle.filetree.specs.Modulefiles.{modulefile, is_module, path_of}
use Rattle.search.specs.Single.{is_single}

-- a file with the cookie is at the path
abbrev pub IsModuleAt : Files → Text → Type 0
IsModuleAt files path = is_module (modulefile (files path)) ≡ true

-- the folder at the path has an entry of this name
abbrev pub HasEntry : Listings → Text → Text → Type 0
HasEntry listings path name =
    (entries : List Text) × (listings path ≡ Some entries) × (list_any (bytes_eq name) entries ≡ true)

-- A candidate of a name below a directory: a version that is an entry of the name's folder, has one part, and with
-- which the full name is well spelled and is that of a file with the cookie.
pub record IsCandidate (files : Files) (listings : Listings) (dir name v : Text) : Type 0 where
  pub entry : HasEntry listings (path_of dir name) v
  pub single : is_single v ≡ true
  pub spelled : is_module_name (path_of name v) ≡ true
  pub file : IsModuleAt files (path_of dir (path_of name v))

-- the folder of a name has a candidate
abbrev pub HasCandidates : Files → Listings → Text → Text → Type 0
HasCandidates files listings dir name = (v : Text) × IsCandidate files listings dir name v

-- an entry of the folder of a name that can be a version: it has one part, and with it the full name is well spelled
pub record IsVersionIn (listings : Listings) (dir name v : Text) : Type 0 where
  pub entry : HasEntry listings (path_of dir name) v
  pub single : is_single v ≡ true
  pub spelled : is_module_name (path_of name v) ≡ true

-- the path of the file of a version
abbrev pub LooksAtVersion : Listings → Text → Text → Text → Text → Type 0
LooksAtVersion listings dir name v at = IsVersionIn listings dir name v × (at ≡ path_of dir (path_of name v))

-- the paths that are looked at for the greatest candidate: those of the versions that no candidate comes after
abbrev pub LooksForGreatest : Files → Listings → Text → Text → Text → Type 0
LooksForGreatest files listings dir name at =
    (v : Text) × LooksAtVersion listings dir name v at
    × ((w : Text) → IsCandidate files listings dir name w → is_le (version_order w v) ≡ true)
