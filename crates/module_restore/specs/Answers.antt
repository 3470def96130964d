-- What a restore answers, and why nothing is kept (own).
use Rattle.std.specs.Prelude.{◌≡◌, List, Option, Some, None, Ok}
use Rattle.envvars.specs.Texts.{Text}
use Rattle.envvars.specs.Environment.{Environment}
use Rattle.filetree.specs.Agreement.{Files, Listings, InEachPair}
use Rattle.filetree.specs.Causes.{Cause, memory, device, because}
use Rattle.shelltext.specs.Reading.{SaysDifference}
use Rattle.shelltext.specs.declared.shell.Shell.{Shell}
use Rattle.module_words.specs.modulepath.Faults as paths
use Rattle.module_words.specs.modulepath.Faults.{PathReason}
use Rattle.requests.specs.Reasons.{RequestReason}
use Rattle.requests.specs.Steps.{Done}
use Rattle.modules.specs.Answers.{cause_of}
use Rattle.modules.specs.Messages as texts
use Rattle.module_restore.specs.Saves.{KeepReason, no_path, refused_for}
use Rattle.module_auto.specs.Answers.{Outcomes}
use Rattle.module_restore.specs.declared.fault.KeepFault.{KeepFault}
use Rattle.module_restore.specs.declared.fault.KeepFault.TheVariants as keeps

-- A restore answers a text and messages: in each pair of maps that agrees with the tree the step comes to the same, the
-- text says exactly the difference that it makes of the environment, as the shell reads it, and the messages are those
-- of its files.
abbrev pub IsRestored : (Files → Listings → Type 0) → Shell → Environment → Outcomes → Text → List Text → Type 0
IsRestored agrees shell e Comes text messages =
    (d : Done) × InEachPair agrees (λ files listings. Comes files listings (Ok d))
    × SaysDifference shell text e d.env × (messages ≡ d.messages)

-- the cause of a request's refusal, as that of a save
abbrev pub by_request : Cause RequestReason → Cause KeepReason
by_request memory = memory
by_request device = device
by_request (because reason) = because (refused_for reason)

-- the cause of a fault of MODULEPATH
abbrev pub by_path : Option PathReason → Cause KeepReason
by_path None = memory
by_path (Some reason) = because (no_path reason)

-- why nothing is kept
abbrev pub keep_cause : KeepFault → Cause KeepReason
keep_cause (keeps.Refused refusal) = by_request (cause_of refusal)
keep_cause (keeps.Path fault) = by_path (paths.reason_of fault)

-- what stands behind `ERROR: ` where nothing is kept
abbrev pub keep_message : KeepFault → Text
keep_message (keeps.Refused refusal) = texts.message_of refusal
keep_message (keeps.Path fault) = paths.message_of fault
