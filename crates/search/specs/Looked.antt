-- The paths that the search for a module and the listing of modules look at: those of the files and directories
-- that they ask the tree for (module(1), modulefile(5)). A failure of the device at another path can't end them.
use Rattle.std.specs.Prelude.{◌≡◌, ◌⊎◌, true, List, [], ◌∷◌, bytes_eq, codes, Option, Some, None, Ok, Err}
use Rattle.std.specs.List.{list_any}
use Rattle.modulename.specs.ModuleName.{Text, parts, is_module_name}
use Rattle.filetree.specs.Agreement.{Files, Listings}
use Rattle.filetree.specs.Modulefiles.{directories, path_of}
use Rattle.search.specs.Single.{is_single}
use Rattle.search.specs.Reasons.{FindReason}
use Rattle.search.specs.DefaultVersions.{DefaultFileResult, VersionIn, by_command, by_variable}
use Rattle.search.specs.DefaultFiles.{Names}
use Rattle.search.specs.Candidates.{IsModuleAt, IsCandidate, HasCandidates}
use Rattle.search.specs.Found.{IsSomeCandidate, NamedDefault, default_file}
use Rattle.search.specs.Selections.{is_sought}
use Rattle.search.specs.BelowFolder.{ReachesThrough, IsSelectedBelow}
pub use Rattle.search.specs.Candidates.{IsVersionIn, LooksAtVersion, LooksForGreatest}

-- the path of a default file, and that of the file of the version that it names
abbrev pub LooksAtDefaultFile : (Text → Text → Option DefaultFileResult → Type 0) → Files → Listings → Text → Text
    → VersionIn → Text → Text
    → Type 0
LooksAtDefaultFile results files listings dir name says file at =
    (at ≡ default_file dir name file)
    ⊎ ((v : Text) × Names results files says (default_file dir name file) (Ok (Some v))
    × LooksAtVersion listings dir name v at)

-- `.modulerc` has no fault, and names no candidate
abbrev pub ModulercNamesNoCandidate : (Text → Text → Option DefaultFileResult → Type 0) → Files → Listings → Text
    → Text → Type 0
ModulercNamesNoCandidate results files listings dir name =
    (first : Option Text) × Names results files (by_command name) (default_file dir name (codes ".modulerc")) (Ok first)
    × (IsSomeCandidate (IsCandidate files listings dir name) first → ⊥)

-- the paths that are looked at for the candidate that default files name: those of `.modulerc`, and those of `.version`
-- where `.modulerc` names no candidate
abbrev pub LooksForNamed : (Text → Text → Option DefaultFileResult → Type 0) → Files → Listings → Text → Text → Text
    → Type 0
LooksForNamed results files listings dir name at =
    LooksAtDefaultFile results files listings dir name (by_command name) (codes ".modulerc") at
    ⊎ (ModulercNamesNoCandidate results files listings dir name
    × LooksAtDefaultFile results files listings dir name by_variable (codes ".version") at)

-- the default files of a folder name no candidate, or have a fault
abbrev pub NamesNoCandidate : (Text → Text → Option DefaultFileResult → Type 0) → Files → Listings → Text → Text
    → Type 0
NamesNoCandidate results files listings dir name =
    NamedDefault results files listings dir name (Ok None)
    ⊎ ((r : FindReason) × NamedDefault results files listings dir name (Err r))

-- the paths that are looked at in the folder of a name: none where no entry can be a version
abbrev pub LooksInFolder : (Text → Text → Option DefaultFileResult → Type 0) → Files → Listings → Text → Text → Text
    → Type 0
LooksInFolder results files listings dir name at =
    ((v : Text) × IsVersionIn listings dir name v)
    × (LooksForNamed results files listings dir name at
    ⊎ (NamesNoCandidate results files listings dir name × LooksForGreatest files listings dir name at))

-- the paths that are looked at below one directory: that of the name, and those in its folder where the name is no
-- module itself
abbrev pub LooksBelow : (Text → Text → Option DefaultFileResult → Type 0) → Files → Listings → Text → Text → Text
    → Type 0
LooksBelow results files listings dir name at =
    (at ≡ path_of dir name)
    ⊎ ((IsModuleAt files (path_of dir name) → ⊥) × LooksInFolder results files listings dir name at)

-- the directory has a module that the name can mean
abbrev pub GivesModule : Files → Listings → Text → Text → Type 0
GivesModule files listings dir name = IsModuleAt files (path_of dir name) ⊎ HasCandidates files listings dir name

-- the paths that are looked at along directories, up to the first that gives a module
abbrev pub LooksAlong : (Text → Text → Option DefaultFileResult → Type 0) → Files → Listings → Text → List Text
    → Text → Type 0
LooksAlong results files listings name [] at = ⊥
LooksAlong results files listings name (dir ∷ dirs) at =
    LooksBelow results files listings dir name at
    ⊎ ((GivesModule files listings dir name → ⊥) × LooksAlong results files listings name dirs at)

-- The search for a name along a MODULEPATH looks at this path.
abbrev pub LooksAt : (Text → Text → Option DefaultFileResult → Type 0) → Files → Listings → Text → Text → Text → Type 0
LooksAt results files listings modulepath name at =
    (is_module_name name ≡ true) × LooksAlong results files listings name (directories modulepath) at

-- a well-spelled name, of a file or a folder, that is reached from a directory by the entries of folders
pub record IsReached (listings : Listings) (dir name : Text) : Type 0 where
  pub spelled : is_module_name name ≡ true
  pub reaches : ReachesThrough listings dir (parts name)

-- some selected module stands in the folder itself
abbrev pub HasSelected : Files → Listings → List Text → Text → Text → Type 0
HasSelected files listings texts dir folder =
    (v : Text) × (is_single v ≡ true) × IsSelectedBelow files listings texts dir (path_of folder v)

-- the paths that are looked at for the listing of a directory: that of the directory, those of the sought names that
-- are reached from it, and those for the defaults of folders in which a selected module stands
abbrev pub LooksForListing : (Text → Text → Option DefaultFileResult → Type 0) → Files → Listings → List Text → Text
    → Text → Type 0
LooksForListing results files listings texts dir at =
    (at ≡ dir)
    ⊎ (((name : Text) × IsReached listings dir name × (is_sought texts name ≡ true) × (at ≡ path_of dir name))
    ⊎ ((folder : Text) × HasSelected files listings texts dir folder
    × LooksForNamed results files listings dir folder at))

-- The listing of a MODULEPATH looks at this path.
abbrev pub ListingLooksAt : (Text → Text → Option DefaultFileResult → Type 0) → Files → Listings → List Text → Text
    → Text → Type 0
ListingLooksAt results files listings texts modulepath at =
    (dir : Text) × (list_any (bytes_eq dir) (directories modulepath) ≡ true)
    × LooksForListing results files listings texts dir at
