-- What removing does to files (module(1), saverm).
use Rattle.std.specs.Prelude.{◌≡◌, IfSome, Result, Ok, Err}
use Rattle.envvars.specs.Texts.{Text}
use Rattle.envvars.specs.Environment.{Environment}
use Rattle.module_collections.specs.files.Entries.{Entry, Entries, nothing, file, folder, link, other, in_folder}
use Rattle.module_collections.specs.files.Calls.{AreSame, Clears}
use Rattle.module_collections.specs.files.Places.{Folders, elsewhere, folders_for, in_folders}
use Rattle.module_collections.specs.files.Faults.{FileReason, no_file, others, reason_of}
use Rattle.module_collections.specs.declared.files.fault.FileFault.{FileFault}

-- a collection of Environment Modules isn't removed
abbrev pub not_own : Result Text FileReason → Result Text FileReason
not_own (Err reason) = Err reason
not_own (Ok path) = Err (others path)

-- by what is at a path, it, if it is a file or a link; if nothing is there, what is said of the other folder
abbrev pub removable_by : Entry → Text → Result Text FileReason → Result Text FileReason
removable_by nothing path elsewhere = not_own elsewhere
removable_by (file bytes) path elsewhere = Ok path
removable_by folder path elsewhere = Err (no_file path)
removable_by (link target) path elsewhere = Ok path
removable_by other path elsewhere = Err (no_file path)

abbrev pub removable_in : Entries → Folders → Text → Result Text FileReason
removable_in entries folders name =
    removable_by (entries (in_folder folders.own name)) (in_folder folders.own name)
    (elsewhere entries folders.others name)

-- the path of the user's collection of a name, if it can be removed
abbrev pub removable : Entries → Environment → Text → Result Text FileReason
removable entries env name = in_folders (folders_for env name) (λ folders. removable_in entries folders name)

-- Nothing is at this path any more, and nothing else differs; or nothing differs, for this reason.
abbrev pub Removes : Environment → Text → Result (Unit {0}) FileFault → Entries → Entries → Type 0
Removes env name (Ok u) old new = (path : Text) × (removable old env name ≡ Ok path) × Clears path old new
Removes env name (Err fault) old new =
    IfSome (reason_of fault) (λ reason. removable old env name ≡ Err reason) × AreSame old new
