-- What saving does to files (module(1), save): the file has the whole text, or no file differs.
use Rattle.std.specs.Prelude.{◌≡◌, ◌⊎◌, ℕ, string_bytes, IfSome, Option, Some, None}
use Rattle.std.specs.Prelude.{Result, Ok, Err}
use Rattle.envvars.specs.Texts.{Text}
use Rattle.envvars.specs.Environment.{Environment}
use Rattle.module_collections.specs.texts.Lines.{Kept}
use Rattle.module_collections.specs.texts.Saved.{IsSaved}
use Rattle.module_collections.specs.files.Entries.{Entries, nothing, file, in_folder}
use Rattle.module_collections.specs.files.Calls.{AddsFolders, AddsSome, AreSame, Clears, Makes, MakesFolder, Moves, Puts}
use Rattle.module_collections.specs.files.Places.{Folders, folders_for, in_folders}
use Rattle.module_collections.specs.files.Ends.{free_end}
use Rattle.module_collections.specs.files.Failures.{IsSave, IsWrite, failure_by, failure_of, unwritten}
use Rattle.module_collections.specs.files.Faults.{FileReason, reason_of}
use Rattle.module_collections.specs.files.Found.{kept_at}
use Rattle.module_collections.specs.declared.files.fault.FileFault.{FileFault}
use Rattle.module_collections.specs.declared.files.fault.FileFault.TheVariants as faults
use Rattle.module_collections.specs.declared.files.storage.CreationFault.{CreationFault}
use Rattle.module_collections.specs.declared.files.storage.CreationFault.TheVariants as creations
use Rattle.module_collections.specs.declared.files.unwritten.Unwritten.{Unwritten}
use Rattle.module_collections.specs.declared.files.unwritten.Unwritten.TheVariants as ways

-- Nothing differs; or but for a new file at this path.
abbrev pub Leaves : Option Text → Entries → Entries → Type 0
Leaves None old new = AreSame old new
Leaves (Some path) old new = Makes path old new

-- the new file that stays where it wasn't put in its place
abbrev pub left_at : Text → Unwritten → Option Text
left_at path ways.Failed = None
left_at path ways.Left = Some path

-- the same by a fault of a save
abbrev pub left_by : FileFault → Option Text
left_by faults.OutOfMemory = None
left_by faults.NoHome = None
left_by (faults.BadName name) = None
left_by (faults.Missing name) = None
left_by (faults.NoFile path) = None
left_by (faults.Others path) = None
left_by (faults.NoCollection path fault) = None
left_by (faults.Unsaved fault) = None
left_by (faults.Reading path) = None
left_by (faults.Writing path) = None
left_by (faults.Left path) = Some (string_bytes path)

-- Nothing differs; or the fault names the new file that is there.
abbrev pub LeavesBy : FileFault → Entries → Entries → Type 0
LeavesBy fault old new =
    AreSame old new ⊎ ((path : Text) × (left_by fault ≡ Some path) × Makes path old new)

-- the new file at the path is no more; or it is still there
abbrev pub Discards : Text → Unwritten → Entries → Entries → Type 0
Discards path ways.Failed old new = Clears path old new
Discards path ways.Left old new = AreSame old new

-- the same where one was made before this fault
abbrev pub Undoes : Text → CreationFault → Unwritten → Entries → Entries → Type 0
Undoes path creations.NotMade left old new = (left ≡ ways.Failed) × AreSame old new
Undoes path creations.Unfinished left old new = Discards path left old new

-- the new file at the path has this text; or it isn't kept
abbrev pub Compares : Text → Text → Result (Unit {0}) Unwritten → Entries → Entries → Type 0
Compares path text (Ok u) old new = (old path ≡ file text) × AreSame old new
Compares path text (Err fault) old new = Discards path fault old new

-- the new file is at the end; or it isn't kept
abbrev pub Settles : Text → Text → Result (Unit {0}) Unwritten → Entries → Entries → Type 0
Settles path end (Ok u) old new = Moves path end old new
Settles path end (Err fault) old new = Discards path fault old new

-- a new file has this text, where nothing was; or what is left
abbrev pub Adds : Text → Text → Result (Unit {0}) Unwritten → Entries → Entries → Type 0
Adds path text (Ok u) old new = (old path ≡ nothing) × Puts path (file text) old new
Adds path text (Err fault) old new = Leaves (left_at path fault) old new

-- by way of a new file the one at the end has this text; or what is left
abbrev pub Replaces : Text → Text → Text → Result (Unit {0}) Unwritten → Entries → Entries → Type 0
Replaces path end text (Ok u) old new = Puts end (file text) old new
Replaces path end text (Err fault) old new = Leaves (left_at path fault) old new

-- by way of this new file the one at the end has this text, and nothing else differs; or what is left
abbrev pub WritesAt : Text → Text → Text → Result (Unit {0}) FileFault → Entries → Entries → Type 0
WritesAt path end text (Ok u) old new = Puts end (file text) old new
WritesAt path end text (Err fault) old new =
    (reason_of fault ≡ None) × LeavesBy fault old new
    × IfSome (failure_of fault) (λ f. (way : Unwritten) × (f ≡ failure_by way path end))

-- the file to which a path leads has this text, and nothing else differs; or there is none, or what is left
abbrev pub Writes : Text → ℕ → Text → Result (Unit {0}) FileFault → Entries → Entries → Type 0
Writes path number text (Ok u) old new = (end : Text) × (free_end old path ≡ Ok end) × Puts end (file text) old new
Writes path number text (Err fault) old new =
    IfSome (reason_of fault) (λ reason. free_end old path ≡ Err reason) × LeavesBy fault old new
    × IfSome (failure_of fault) (IsWrite path number old)

-- the same, once this folder is made, or couldn't be
abbrev pub WritesInFolder : Text → Text → ℕ → Text → Result (Unit {0}) FileFault → Entries → Entries → Type 0
WritesInFolder folder path number text (Ok u) old new =
    (middle : Entries) × AddsFolders folder old middle × Writes path number text (Ok u) middle new
WritesInFolder folder path number text (Err fault) old new =
    (middle : Entries) × AddsSome folder old middle
    × IfSome (reason_of fault) (λ reason. free_end middle path ≡ Err reason) × LeavesBy fault middle new
    × IfSome (failure_of fault) (λ f. (f ≡ unwritten folder) ⊎ IsWrite path number middle f)

-- the end to which the user's collection of a name leads
abbrev pub own_end : Entries → Environment → Text → Result Text FileReason
own_end entries env name = in_folders (folders_for env name) (λ folders. free_end entries (in_folder folders.own name))

-- what the user's collection of a name keeps
abbrev pub own_kept : Entries → Environment → Text → Result Kept FileReason
own_kept entries env name = in_folders (folders_for env name) (λ folders. kept_at entries (in_folder folders.own name))

-- The file of the name has the collection's text, which is read again as the collection, and nothing else differs.
pub record IsSavedAt (env : Environment) (name : Text) (kept : Kept) (old new : Entries) : Type 0 where
  pub end : Text
  pub text : Text
  pub leads : own_end old env name ≡ Ok end
  pub saved : IsSaved kept text
  pub puts : Puts end (file text) old new
  pub reads : own_kept new env name ≡ Ok kept

-- A collection isn't saved, for this reason: no file that was there differs.
pub record IsNotSaved (env : Environment) (name : Text) (number : ℕ) (kept : Kept) (fault : FileFault)
    (old new : Entries) : Type 0 where
  pub reason : IfSome (reason_of fault) (λ reason. own_end old env name ≡ Err reason)
  pub left : LeavesBy fault old new
  pub failure : IfSome (failure_of fault)
      (λ f. (folders : Folders) × (folders_for env name ≡ Ok folders) × IsSave folders name number kept old f)

-- what has become of the entries, once the user's folder is made
abbrev pub Ends : Environment → Text → ℕ → Kept → Result (Unit {0}) FileFault → Entries → Entries → Type 0
Ends env name number kept (Ok u) old new = IsSavedAt env name kept old new
Ends env name number kept (Err fault) old new = IsNotSaved env name number kept fault old new

-- The user's folder and those on the way to it are there; where the save is refused, some of them may have been made, and
-- none where no folders are for the name.
abbrev pub MakesOwn : Result Folders FileReason → Result (Unit {0}) FileFault → Entries → Entries → Type 0
MakesOwn (Ok folders) result old new = MakesFolder folders.own result old new
MakesOwn (Err reason) result old new = AreSame old new

-- what saving has done: folders where nothing was, and then this; the new file is named by the number
abbrev pub Saves : Environment → Text → ℕ → Kept → Result (Unit {0}) FileFault → Entries → Entries → Type 0
Saves env name number kept result old new =
    (middle : Entries) × MakesOwn (folders_for env name) result old middle × Ends env name number kept result middle new
