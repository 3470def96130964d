-- Why a call for collections is refused (docs/REFUSALS.md, "Of the function alone").
use Rattle.std.specs.Prelude.{string_bytes, Option, Some, None}
use Rattle.std.specs.Option.{option_map}
use Rattle.envvars.specs.Texts.{Text}
use Rattle.module_collections.specs.texts.Collections.{CollectionReason}
use Rattle.module_collections.specs.texts.Views as collections
use Rattle.module_collections.specs.declared.texts.fault.CollectionFault.{CollectionFault}
use Rattle.module_collections.specs.declared.files.fault.FileFault.{FileFault}
use Rattle.module_collections.specs.declared.files.fault.FileFault.TheVariants as faults

-- why there is no answer, by what is at paths and in the environment
pub data FileReason : Type 0 where
  no_home : FileReason
  bad_name : (name : Text) → FileReason
  missing : (name : Text) → FileReason
  no_file : (path : Text) → FileReason
  others : (path : Text) → FileReason
  no_collection : (path : Text) → (reason : CollectionReason) → FileReason

-- the reason by a fault of the text of a file
abbrev pub reason_at : Text → CollectionFault → Option FileReason
reason_at path fault = option_map (λ reason. no_collection path reason) (collections.reason_of fault)

-- The reason of a fault. None has want of memory, a collection that can't be saved, and where the system failed.
abbrev pub reason_of : FileFault → Option FileReason
reason_of faults.OutOfMemory = None
reason_of faults.NoHome = Some no_home
reason_of (faults.BadName name) = Some (bad_name (string_bytes name))
reason_of (faults.Missing name) = Some (missing (string_bytes name))
reason_of (faults.NoFile path) = Some (no_file (string_bytes path))
reason_of (faults.Others path) = Some (others (string_bytes path))
reason_of (faults.NoCollection path fault) = reason_at (string_bytes path) fault
reason_of (faults.Unsaved fault) = None
reason_of (faults.Reading path) = None
reason_of (faults.Writing path) = None
reason_of (faults.Left path) = None
