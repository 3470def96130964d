-- What the maps don't decide, as faults say it: what the system couldn't do, and that a collection can't be saved
-- (docs/REFUSALS.md, "Of the function alone"); and the texts of faults.
use Rattle.std.specs.Prelude.{◌≡◌, ◌⊎◌, ℕ, true, List, ◌++◌, codes, decimal, string_bytes, Option, Some, None, Ok}
use Rattle.message.specs.Messages.{around, quoting}
use Rattle.envvars.specs.Texts.{Text, has}
use Rattle.envvars.specs.Environment.{Environment}
use Rattle.module_collections.specs.texts.Lines.{Kept}
use Rattle.module_collections.specs.texts.Saved.{IsSaveFault, text_of_save}
use Rattle.module_collections.specs.texts.Views.{text_of}
use Rattle.module_collections.specs.declared.texts.save.SaveFault.{SaveFault}
use Rattle.module_collections.specs.files.Entries.{Entries, beside, in_folder, is_there}
use Rattle.module_collections.specs.files.Ends.{free_end}
use Rattle.module_collections.specs.files.Names.{is_collection_name}
use Rattle.module_collections.specs.files.Places.{Folders, folders_for}
use Rattle.module_collections.specs.declared.files.fault.FileFault.{FileFault}
use Rattle.module_collections.specs.declared.files.fault.FileFault.TheVariants as faults
use Rattle.module_collections.specs.declared.files.unwritten.Unwritten.{Unwritten}
use Rattle.module_collections.specs.declared.files.unwritten.Unwritten.TheVariants as ways

-- at this path nothing could be read, or written; the new file at this path couldn't be removed; this collection can't
-- be saved
pub data Failure : Type 0 where
  unread : (path : Text) → Failure
  unwritten : (path : Text) → Failure
  left : (path : Text) → Failure
  unsaved : (fault : SaveFault) → Failure

-- the failure of a fault; none has want of memory, and what has a reason
abbrev pub failure_of : FileFault → Option Failure
failure_of faults.OutOfMemory = None
failure_of faults.NoHome = None
failure_of (faults.BadName name) = None
failure_of (faults.Missing name) = None
failure_of (faults.NoFile path) = None
failure_of (faults.Others path) = None
failure_of (faults.NoCollection path fault) = None
failure_of (faults.Unsaved fault) = Some (unsaved fault)
failure_of (faults.Reading path) = Some (unread (string_bytes path))
failure_of (faults.Writing path) = Some (unwritten (string_bytes path))
failure_of (faults.Left path) = Some (left (string_bytes path))

-- what stands behind `ERROR: `
abbrev pub message_of : FileFault → Text
message_of faults.OutOfMemory = codes "Out of memory"
message_of faults.NoHome = codes "HOME is not set"
message_of (faults.BadName name) = quoting (codes "Bad name of a collection: '") (string_bytes name)
message_of (faults.Missing name) = quoting (codes "There is no collection '") (string_bytes name)
message_of (faults.NoFile path) = quoting (codes "No file: '") (string_bytes path)
message_of (faults.Others path) =
    quoting (codes "A collection of Environment Modules, which is left to it: '") (string_bytes path)
message_of (faults.NoCollection path fault) =
    around (codes "No collection: '") (string_bytes path) (codes "': " ++ text_of fault)
message_of (faults.Unsaved fault) = text_of_save fault
message_of (faults.Reading path) = quoting (codes "Reading failed: '") (string_bytes path)
message_of (faults.Writing path) = quoting (codes "Writing failed: '") (string_bytes path)
message_of (faults.Left path) = quoting (codes "Writing failed, and a part stays: '") (string_bytes path)

-- ---- Where reading may fail

-- at the path of the name in the folder of Environment Modules
abbrev pub IsElsewhere : Option Text → Text → Failure → Type 0
IsElsewhere None name f = ⊥
IsElsewhere (Some path) name f = f ≡ unread (in_folder path name)

-- at the path of the name in one of the folders
abbrev pub IsInFolders : Folders → Text → Failure → Type 0
IsInFolders folders name f = (f ≡ unread (in_folder folders.own name)) ⊎ IsElsewhere folders.others name f

-- the same by the environment
abbrev pub IsLooked : Environment → Text → Failure → Type 0
IsLooked env name f = (folders : Folders) × (folders_for env name ≡ Ok folders) × IsInFolders folders name f

-- a removal: reading there, or removing the user's collection of the name
abbrev pub IsRemoval : Environment → Text → Failure → Type 0
IsRemoval env name f =
    (folders : Folders) × (folders_for env name ≡ Ok folders)
    × (IsInFolders folders name f ⊎ (f ≡ unwritten (in_folder folders.own name)))

-- ---- Where listing may fail

-- at the path of a collection's name in a folder
abbrev pub IsAtName : Text → Text → Failure → Type 0
IsAtName path name f = (is_collection_name name ≡ true) × (f ≡ unread (in_folder path name))

-- at that of one of these names
abbrev pub IsAtOne : Text → List Text → Failure → Type 0
IsAtOne path names f = (name : Text) × (has name names ≡ true) × IsAtName path name f

-- at the path of a folder, or at that of a collection's name which is there
abbrev pub IsInFolder : Entries → Text → Failure → Type 0
IsInFolder entries path f =
    (f ≡ unread path) ⊎ ((name : Text) × (is_there (entries (in_folder path name)) ≡ true) × IsAtName path name f)

abbrev pub IsInSome : Entries → Option Text → Failure → Type 0
IsInSome entries None f = ⊥
IsInSome entries (Some path) f = IsInFolder entries path f

-- of one of the folders
abbrev pub IsListing : Entries → Folders → Failure → Type 0
IsListing entries folders f = IsInFolder entries folders.own f ⊎ IsInSome entries folders.others f

-- ---- Where writing may fail

-- the path of the new file beside another one, by a number
abbrev pub new_path : Text → ℕ → Text
new_path path number = beside path (codes ".new." ++ decimal number)

-- by how the new file wasn't put in its place: writing the file at the end, or removing the new one
abbrev pub failure_by : Unwritten → Text → Text → Failure
failure_by ways.Failed new end = unwritten end
failure_by ways.Left new end = left new

-- of the file at the end of the links of a path: writing at the path, where they can't be followed, or at the end; or
-- removing the new file beside the end
abbrev pub IsWrite : Text → ℕ → Entries → Failure → Type 0
IsWrite path number entries (unread p) = ⊥
IsWrite path number entries (unwritten p) = (p ≡ path) ⊎ (free_end entries path ≡ Ok p)
IsWrite path number entries (left p) = (end : Text) × (free_end entries path ≡ Ok end) × (p ≡ new_path end number)
IsWrite path number entries (unsaved fault) = ⊥

-- of a save: making the user's folder, or writing the file; or no file can keep this
abbrev pub IsSave : Folders → Text → ℕ → Kept → Entries → Failure → Type 0
IsSave folders name number kept entries (unread p) = ⊥
IsSave folders name number kept entries (unwritten p) =
    (p ≡ folders.own) ⊎ IsWrite (in_folder folders.own name) number entries (unwritten p)
IsSave folders name number kept entries (left p) = IsWrite (in_folder folders.own name) number entries (left p)
IsSave folders name number kept entries (unsaved fault) = IsSaveFault kept fault
