-- What is prepared for a save (for private clauses).
use Rattle.std.specs.Prelude.{◌≡◌, string_bytes, Ok}
use Rattle.envvars.specs.Texts.{Text}
use Rattle.envvars.specs.Environment.{Environment}
use Rattle.module_collections.specs.texts.Lines.{Kept}
use Rattle.module_collections.specs.texts.Saved.{IsSaved, IsSaveFault}
use Rattle.module_collections.specs.declared.texts.save.SaveFault.{SaveFault}
use Rattle.module_collections.specs.files.Entries.{in_folder}
use Rattle.module_collections.specs.files.Failures.{Failure, unsaved}
use Rattle.module_collections.specs.files.Places.{Folders, folders_for}
use Rattle.module_collections.specs.declared.files.save.PreparedSave.{PreparedSave}

-- the path is that of the name in the user's folder, and the text that of the collection
abbrev pub IsPrepared : Environment → Text → Kept → PreparedSave → Type 0
IsPrepared env name kept prepared =
    (folders : Folders) × (folders_for env name ≡ Ok folders)
    × (string_bytes prepared.path ≡ in_folder folders.own name) × IsSaved kept (string_bytes prepared.text)
    × (string_bytes prepared.folder ≡ folders.own)

-- nothing is prepared, since no file can keep the collection
abbrev pub IsUnsaved : Kept → Failure → Type 0
IsUnsaved kept f = (wrong : SaveFault) × (f ≡ unsaved wrong) × IsSaveFault kept wrong

abbrev pub IsUnprepared : Environment → Text → Kept → Failure → Type 0
IsUnprepared env name kept f =
    (folders : Folders) × (folders_for env name ≡ Ok folders) × IsUnsaved kept f
