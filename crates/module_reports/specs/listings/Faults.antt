-- Why there is no report, and no answer, with the texts (docs/REFUSALS.md).
use Rattle.std.specs.Prelude.{Bool, true, false, Option, Some, None, [], codes}
use Rattle.message.specs.Messages.{Text, quoting}
use Rattle.message.specs.Refusals.{about}
use Rattle.message.specs.declared.refusals.RefusalKind.TheVariants as kinds
use Rattle.envvars.specs.declared.fault.EnvFault.{EnvFault}
use Rattle.envvars.specs.declared.fault.EnvFault.TheVariants as envs
use Rattle.filetree.specs.Causes.{Cause, memory, device, because}
use Rattle.filetree.specs.declared.tree.TreeFault.{TreeFault}
use Rattle.filetree.specs.declared.tree.TreeFault.TheVariants as trees
use Rattle.module_words.specs.declared.subcommands.table.Subcommand.{Subcommand}
use Rattle.module_words.specs.declared.subcommands.table.Subcommand.TheVariants as subcommands
use Rattle.module_reports.specs.declared.listings.fault.ListingFault.{ListingFault}
use Rattle.module_reports.specs.declared.listings.fault.ListingFault.TheVariants as faults

-- Why there is none, apart from want of memory and a failed device.
pub data ListingReason : Type 0 where
  inconsistent : ListingReason
  bad_arguments : ListingReason
  no_option : (subcommand : Subcommand) → (word : Text) → ListingReason

-- the cause of a fault
abbrev pub cause_of : ListingFault → Cause ListingReason
cause_of faults.OutOfMemory = memory
cause_of faults.Inconsistent = because inconsistent
cause_of faults.Device = device
cause_of faults.BadArguments = because bad_arguments
cause_of (faults.NoOption subcommand word) = because (no_option subcommand word.now)

-- the reason of a fault; want of memory and a failed device are none
abbrev pub reason_of : ListingFault → Option ListingReason
reason_of faults.OutOfMemory = None
reason_of faults.Inconsistent = Some inconsistent
reason_of faults.Device = None
reason_of faults.BadArguments = Some bad_arguments
reason_of (faults.NoOption subcommand word) = Some (no_option subcommand word.now)

-- the fault is the device's
abbrev pub is_failure : ListingFault → Bool
is_failure faults.OutOfMemory = false
is_failure faults.Inconsistent = false
is_failure faults.Device = true
is_failure faults.BadArguments = false
is_failure (faults.NoOption subcommand word) = false

-- the fault has a reason
abbrev pub has_reason : ListingFault → Bool
has_reason faults.OutOfMemory = false
has_reason faults.Inconsistent = true
has_reason faults.Device = false
has_reason faults.BadArguments = true
has_reason (faults.NoOption subcommand word) = true

-- what stands in front of an option that the report, of `avail` or of `list`, doesn't have
abbrev pub before_option : Subcommand → Text
before_option subcommands.List = codes "'list' has no option '"
before_option other = codes "'avail' has no option '"

-- what stands behind `ERROR: `
abbrev pub message_of : ListingFault → Text
message_of faults.OutOfMemory = (about kinds.MemoryForRequest []).text
message_of faults.Inconsistent = (about kinds.Inconsistent []).text
message_of faults.Device = (about kinds.Device []).text
message_of faults.BadArguments = (about kinds.BadArguments []).text
message_of (faults.NoOption subcommand word) = quoting (before_option subcommand) word.now

-- a reading of the environment that failed: it is inconsistent, or memory ran out
abbrev pub of_env : EnvFault → ListingFault
of_env envs.OutOfMemory = faults.OutOfMemory
of_env (envs.BadVariable name) = faults.OutOfMemory
of_env (envs.Protected name) = faults.OutOfMemory
of_env (envs.CounterFull name) = faults.OutOfMemory
of_env envs.Inconsistent = faults.Inconsistent
of_env (envs.BadStack name) = faults.OutOfMemory
of_env (envs.BadValue name) = faults.OutOfMemory

-- a tree's fault
abbrev pub of_tree : TreeFault → ListingFault
of_tree trees.OutOfMemory = faults.OutOfMemory
of_tree trees.Device = faults.Device
