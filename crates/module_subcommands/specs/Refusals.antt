-- The texts of refusals (docs/REFUSALS.md).
use Rattle.std.specs.Prelude.{[], ◌++◌, codes}
use Rattle.message.specs.Messages.{Text, text_of}
use Rattle.message.specs.Refusals.{about}
use Rattle.message.specs.declared.refusals.RefusalKind.TheVariants as kinds
use Rattle.envvars.specs.declared.fault.EnvFault.{EnvFault}
use Rattle.modules.specs.Messages as requests
use Rattle.modules.specs.declared.refusal.Refusal.TheVariants as reasons
use Rattle.module_auto.specs.Answers as automated
use Rattle.module_auto.specs.declared.fault.RequestFault.TheVariants as faults
use Rattle.module_collections.specs.files.Failures as files
use Rattle.module_restore.specs.forgetting.Answers as forgotten
use Rattle.module_reports.specs.listings.Faults as listings
use Rattle.module_restore.specs.Answers as restored
use Rattle.module_words.specs.function.Faults as words
use Rattle.module_words.specs.function.Outputs as outputs
use Rattle.module_subcommands.specs.declared.refusal.Refusal.{Refusal}
use Rattle.module_subcommands.specs.declared.refusal.Refusal.TheVariants as refusals

-- what stands behind `ERROR: `
abbrev pub message_of : Refusal → Text
message_of refusals.OutOfMemory = (about kinds.MemoryForRequest []).text
message_of refusals.BadArguments = (about kinds.BadArguments []).text
message_of refusals.WriteFailed = (about kinds.WriteFailed []).text
message_of (refusals.Numbered numbered) = text_of numbered.message
message_of (refusals.Function fault) = words.message_of fault
message_of (refusals.Output fault) = outputs.message_of fault
message_of (refusals.Listing fault) = listings.message_of fault
message_of (refusals.Described refusal) = requests.message_of refusal
message_of (refusals.Requested fault) = (automated.refusal_of fault).text
message_of (refusals.Restore fault) = (automated.refusal_of fault).text
message_of (refusals.Keep fault) = restored.keep_message fault
message_of (refusals.Forget fault) = forgotten.message_of fault
message_of (refusals.Files fault) = files.message_of fault

-- The line of a refusal.
abbrev pub error_line : Refusal → Text
error_line refusal = codes "ERROR: " ++ (message_of refusal ++ codes "\n")

-- an edit or a reading of the environment that failed
abbrev pub of_env : EnvFault → Refusal
of_env fault = refusals.Requested (faults.Refused (reasons.Env fault))
