-- Why a command of the function has no answer, with the texts (docs/REFUSALS.md).
use Rattle.std.specs.Prelude.{◌≡◌, [], codes, Option, Some, None, IfSome, Result, Err}
use Rattle.std.specs.Option.{option_map}
use Rattle.message.specs.Messages.{Text, quoting}
use Rattle.message.specs.Refusals.{about}
use Rattle.message.specs.declared.refusals.RefusalKind.TheVariants as kinds
use Rattle.envvars.specs.declared.fault.EnvFault.{EnvFault}
use Rattle.envvars.specs.declared.fault.EnvFault.TheVariants as envs
use Rattle.module_words.specs.modulepath.Faults as paths
use Rattle.module_words.specs.modulepath.Faults.{PathReason}
use Rattle.module_words.specs.subcommands.Meanings.{WordReason}
use Rattle.module_words.specs.subcommands.Faults as words
use Rattle.module_words.specs.subcommands.Subcommands.{name_of}
use Rattle.module_words.specs.declared.subcommands.table.Subcommand.{Subcommand}
use Rattle.module_words.specs.declared.function.fault.FunctionFault.{FunctionFault}
use Rattle.module_words.specs.declared.function.fault.FunctionFault.TheVariants as faults

-- Why a command has no answer, apart from want of memory.
pub data FunctionReason : Type 0 where
  inconsistent : FunctionReason
  bad_arguments : FunctionReason
  unknown_shell : (word : Text) → FunctionReason
  means_nothing : WordReason → FunctionReason
  not_here : Subcommand → FunctionReason
  no_path : PathReason → FunctionReason

-- the reason of a fault; want of memory is none
abbrev pub reason_of : FunctionFault → Option FunctionReason
reason_of faults.OutOfMemory = None
reason_of faults.Inconsistent = Some inconsistent
reason_of faults.BadArguments = Some bad_arguments
reason_of (faults.UnknownShell word) = Some (unknown_shell word.now)
reason_of (faults.Word fault) = Some (means_nothing (words.reason_of fault))
reason_of (faults.NotHere subcommand) = Some (not_here subcommand)
reason_of (faults.Path fault) = option_map no_path (paths.reason_of fault)

-- the reason of a fault is that of the outcome
abbrev pub HasReason : {X : Type 0} → FunctionFault → Result X FunctionReason → Type 0
HasReason fault outcome = IfSome (reason_of fault) (λ reason. outcome ≡ Err reason)

-- what stands behind `ERROR: `
abbrev pub message_of : FunctionFault → Text
message_of faults.OutOfMemory = (about kinds.MemoryForRequest []).text
message_of faults.Inconsistent = (about kinds.Inconsistent []).text
message_of faults.BadArguments = (about kinds.BadArguments []).text
message_of (faults.UnknownShell word) = (about kinds.UnknownShell word.now).text
message_of (faults.Word fault) = words.message_of (words.reason_of fault)
message_of (faults.NotHere subcommand) = quoting (codes "This program doesn't do '") (name_of subcommand)
message_of (faults.Path fault) = paths.message_of fault

-- an edit or a reading of the environment that failed: it is inconsistent, or memory ran out
abbrev pub of_env : EnvFault → FunctionFault
of_env envs.OutOfMemory = faults.OutOfMemory
of_env (envs.BadVariable name) = faults.OutOfMemory
of_env (envs.Protected name) = faults.OutOfMemory
of_env (envs.CounterFull name) = faults.OutOfMemory
of_env envs.Inconsistent = faults.Inconsistent
of_env (envs.BadStack name) = faults.OutOfMemory
of_env (envs.BadValue name) = faults.OutOfMemory
