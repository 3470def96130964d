-- The folders in which the modules of a site are, and default files with a fault, or without effect (own).
use Rattle.std.specs.Prelude.{◌≡◌, ◌↔◌, ◌⊎◌, true, List, [], ◌∷◌, ◌++◌, Option, Some, Ok, Err, option_to_list}
use Rattle.std.specs.Prelude.{string_bytes}
use Rattle.envvars.specs.Texts.{Text}
use Rattle.envvars.specs.Fields.{without_repeats}
use Rattle.tclrules.specs.declared.limits.Limits.{Limits}
use Rattle.filetree.specs.Agreement.{Files, Listings}
use Rattle.filetree.specs.Modulefiles.{path_of}
use Rattle.lookup.specs.DefaultFileResults.{HasResult}
use Rattle.search.specs.Single.{is_single}
use Rattle.search.specs.Reasons.{bad_default}
use Rattle.search.specs.Found.{Found, FoundModule}
use Rattle.search.specs.Looked.{LooksAt}
use Rattle.audit_certificate.specs.RecordUses.{IsAmong}
use Rattle.audit_laws.specs.site.DirectorySets.{with_directories}
use Rattle.audit_laws.specs.site.Sites.{SiteModule}
use Rattle.audit_site.specs.WithoutVersion.{NamesNoVersion, VersionsLookAt}
use Rattle.audit_site.specs.declared.walk.Evaluation.{Evaluation}
use Rattle.audit_site.specs.declared.defaults.Folder.{Folder}

-- the module of this name is in this folder
pub record IsInFolder (name folder : Text) : Type 0 where
  pub version : Text
  pub joined : name ≡ path_of folder version
  pub single : is_single version ≡ true

-- a folder of a directory: the directory, and the name of the folder
abbrev pub FolderText : Type 0
FolderText = Text × Text

-- what the code has for it
abbrev pub folder_view : Folder → FolderText
folder_view folder = (string_bytes folder.dir, string_bytes folder.name)

-- the module of this name with this file is in the folder
abbrev pub HoldsModule : FolderText → Text → Text → Type 0
HoldsModule folder name path = (path ≡ path_of folder.0 name) × IsInFolder name folder.1

-- the search for the folder along its directory finds a module
abbrev pub FindsModule : Limits → Files → Listings → FolderText → Type 0
FindsModule limits files listings folder =
    (m : FoundModule) × Found (HasResult limits) files listings folder.0 folder.1 (Ok m)

-- The default file at this path has a fault, so that the search for the folder along its directory is refused; or that
-- search finds a module, and the default files of the folder, of which this is the first, name no version in it.
abbrev pub IsBadIn : Limits → Files → Listings → FolderText → Text → Type 0
IsBadIn limits files listings folder path =
    Found (HasResult limits) files listings folder.0 folder.1 (Err (bad_default path))
    ⊎ (FindsModule limits files listings folder × NamesNoVersion limits files listings folder.0 folder.1 path)

-- this is the path of the bad default file of the folder, or it has none
abbrev pub IsBadAnswer : Limits → Files → Listings → FolderText → Option Text → Type 0
IsBadAnswer limits files listings folder answer =
    (path : Text) → (answer ≡ Some path) ↔ IsBadIn limits files listings folder path

-- this is the path of the bad default file of the folder in which the module is, or it has none
abbrev pub IsBadDefaultOf : Limits → Files → Listings → SiteModule → Option Text → Type 0
IsBadDefaultOf limits files listings m answer =
    (path : Text) → (answer ≡ Some path)
    ↔ ((folder : FolderText) × HoldsModule folder m.name m.path × IsBadIn limits files listings folder path)

-- those of some modules in turn
abbrev pub AreBadDefaultsOf : Limits → Files → Listings → List SiteModule → List Text → Type 0
AreBadDefaultsOf limits files listings [] paths = paths ≡ []
AreBadDefaultsOf limits files listings (m ∷ ms) paths =
    (answer : Option Text) × (rest : List Text) × IsBadDefaultOf limits files listings m answer
    × AreBadDefaultsOf limits files listings ms rest × (paths ≡ option_to_list answer ++ rest)

-- The paths of the bad default files of the folders in which these modules are, in their order, each once.
abbrev pub AreBadDefaultFiles : Limits → Files → Listings → List SiteModule → List Text → Type 0
AreBadDefaultFiles limits files listings ms found =
    (paths : List Text) × AreBadDefaultsOf limits files listings ms paths × (found ≡ without_repeats paths)

-- ---- for this crate's own contracts alone

-- one of the evaluated modules is in the folder
abbrev pub HoldsOneOf : List Evaluation → FolderText → Type 0
HoldsOneOf evaluations folder =
    (e : Evaluation) × IsAmong e evaluations × HoldsModule folder (string_bytes e.name) (string_bytes e.path)

-- These paths have that of the bad default file of the folder after them, unless it is there or there is none.
abbrev pub AddsBadAnswer : Limits → Files → Listings → FolderText → List Text → List Text → Type 0
AddsBadAnswer limits files listings folder old new =
    (answer : Option Text) × IsBadAnswer limits files listings folder answer
    × (new ≡ with_directories old (option_to_list answer))

-- These paths have that answer after them, unless the folder is one of these.
abbrev pub AddsNewAnswer : Limits → Files → Listings → List FolderText → FolderText → List Text → List Text → Type 0
AddsNewAnswer limits files listings folders folder old new =
    (IsAmong folder folders × (new ≡ old)) ⊎ AddsBadAnswer limits files listings folder old new

-- These paths have the answer of the folder in which the module is, if it is in one that isn't among these.
abbrev pub AddsBadDefault : Limits → Files → Listings → List FolderText → SiteModule → List Text → List Text → Type 0
AddsBadDefault limits files listings folders m old new =
    ((folder : FolderText) × IsAmong folder folders × HoldsModule folder m.name m.path × (new ≡ old))
    ⊎ ((answer : Option Text) × IsBadDefaultOf limits files listings m answer
    × (new ≡ with_directories old (option_to_list answer)))

-- the folders are those that were there, and that of the module, if it is in one
abbrev pub AddsFolder : List FolderText → SiteModule → List FolderText → Type 0
AddsFolder old m new = (folder : FolderText) → IsAmong folder new ↔ (IsAmong folder old ⊎ HoldsModule folder m.name m.path)

-- the search for the folder along its directory looks at this path, or that for the version that its default files name
abbrev pub SearchLooksAt : Limits → Files → Listings → FolderText → Text → Type 0
SearchLooksAt limits files listings folder at =
    LooksAt (HasResult limits) files listings folder.0 folder.1 at
    ⊎ VersionsLookAt limits files listings folder.0 folder.1 at

-- the same of the folder in which the module is
abbrev pub ModuleLooksAt : Limits → Files → Listings → SiteModule → Text → Type 0
ModuleLooksAt limits files listings m at =
    (folder : FolderText) × HoldsModule folder m.name m.path × SearchLooksAt limits files listings folder at

-- the same of one of the folders in which the evaluated modules are
abbrev pub EvaluatedLookAt : Limits → Files → Listings → List Evaluation → Text → Type 0
EvaluatedLookAt limits files listings evaluations at =
    (folder : FolderText) × HoldsOneOf evaluations folder × SearchLooksAt limits files listings folder at
