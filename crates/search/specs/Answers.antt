-- How the types of the code show the definitions of a search: its faults with their causes, and the module found.
use Rattle.std.specs.Prelude.{Bool, true, false, [], Result, string_bytes}
use Rattle.message.specs.Refusals.{NumberedText, about}
use Rattle.message.specs.declared.refusals.RefusalKind.TheVariants as kinds
use Rattle.filetree.specs.Agreement.{Files, Listings}
use Rattle.filetree.specs.Causes as causes
use Rattle.filetree.specs.Causes.{Cause, memory, device, because}
use Rattle.filetree.specs.declared.tree.TreeFault.{TreeFault}
use Rattle.filetree.specs.declared.tree.TreeFault.TheVariants as trees
use Rattle.search.specs.declared.find_fault.FindFault.{FindFault}
use Rattle.search.specs.declared.find_fault.FindFault.TheVariants as faults
use Rattle.search.specs.Reasons.{FindReason, bad_name, not_found, bad_default, not_utf8_at}
use Rattle.search.specs.Found.{FoundModule}
use Rattle.search.specs.declared.found.LocatedModule.{LocatedModule}

-- the refusal that each fault is
abbrev pub refusal_of : FindFault → NumberedText
refusal_of faults.OutOfMemory = about kinds.MemoryForSearch []
refusal_of (faults.NotFound name) = about kinds.NotFound (string_bytes name)
refusal_of faults.Device = about kinds.Device []
refusal_of (faults.BadName name) = about kinds.BadName (string_bytes name)
refusal_of (faults.BadDefaultFile path) = about kinds.BadDefaultFile (string_bytes path)
refusal_of (faults.NotUtf8 path) = about kinds.NotUtf8 (string_bytes path)

-- a tree's fault, as one of the search
abbrev pub fault_of_tree : TreeFault → FindFault
fault_of_tree trees.OutOfMemory = faults.OutOfMemory
fault_of_tree trees.Device = faults.Device

-- the cause of a fault of the search
abbrev pub cause_of : FindFault → Cause FindReason
cause_of faults.OutOfMemory = memory
cause_of faults.Device = device
cause_of (faults.NotFound name) = because (not_found (string_bytes name))
cause_of (faults.BadName name) = because (bad_name (string_bytes name))
cause_of (faults.BadDefaultFile path) = because (bad_default (string_bytes path))
cause_of (faults.NotUtf8 path) = because (not_utf8_at (string_bytes path))

-- the fault is the device's
abbrev pub is_failure : FindFault → Bool
is_failure faults.OutOfMemory = false
is_failure faults.Device = true
is_failure (faults.NotFound name) = false
is_failure (faults.BadName name) = false
is_failure (faults.BadDefaultFile path) = false
is_failure (faults.NotUtf8 path) = false

-- the answer of a call over a tree whose faults are those of the search
abbrev pub FindAnswersOverTree : {X Y : Type 0} → (Files → Listings → Type 0) → Type 0 → (X → Y) → Result X FindFault
    → (Files → Listings → Result Y FindReason → Type 0) → Type 0
FindAnswersOverTree = causes.AnswersOverTree cause_of

-- the module that was found
abbrev pub found_view : LocatedModule → FoundModule
found_view found = record {
  name = string_bytes found.name;
  path = string_bytes found.path;
  text = string_bytes found.text;
}
