-- The number and the text of each refusal (own): those of its layer's fault, or its own.
use Rattle.std.specs.Prelude.{ℕ, ◌≡◌, ◌==◌, true, List, [], ◌∷◌, string_bytes}
use Rattle.std.specs.List.{list_any}
use Rattle.envvars.specs.Reasons as edits
use Rattle.envvars.specs.Texts.{texts_in}
use Rattle.search.specs.Answers as finds
use Rattle.filetree.specs.Causes.{Cause, memory, device, because}
use Rattle.message.specs.Messages.{Text}
use Rattle.message.specs.Refusals.{NumberedText, about}
use Rattle.message.specs.Refusals as table
use Rattle.message.specs.declared.refusals.RefusalKind.TheVariants as kinds
use Rattle.modulefile_run.specs.Messages as runs
use Rattle.modulefile_run.specs.declared.run_stop.RunStop.{RunStop}
use Rattle.modulefile_run.specs.declared.run_stop.RunStop.TheVariants as faults
use Rattle.requests.specs.Reasons.{RequestReason, reason_number}
use Rattle.requests.specs.Requests.{RequestedAction, load, unload, switch, purge, list, avail, show, whatis}
use Rattle.modules.specs.Answers.{cause_of}
use Rattle.modules.specs.Spaced.{spaced}
use Rattle.modules.specs.declared.refusal.Refusal.{Refusal}
use Rattle.modules.specs.declared.refusal.Refusal.TheVariants as refusals

-- the number of a cause: for want of memory this one, 43 for a failed device, and else that of the step's reason
abbrev pub number_by : ℕ → Cause RequestReason → ℕ
number_by out_of_memory memory = out_of_memory
number_by out_of_memory device = table.number_of kinds.Device
number_by out_of_memory (because reason) = reason_number reason

-- the number of want of memory where a modulefile is run: 11 in its evaluation, and else 31
abbrev pub run_memory_number : RunStop → ℕ
run_memory_number (faults.Eval fault) = table.number_of kinds.MemoryForEvaluation
run_memory_number fault = table.number_of kinds.MemoryForRequest

-- the number of want of memory: 11 in the evaluation of a file, 41 in the search, and else 31
abbrev pub memory_number : Refusal → ℕ
memory_number (refusals.Run refused) = run_memory_number refused.stop
memory_number (refusals.Find fault) = table.number_of kinds.MemoryForSearch
memory_number refusal = table.number_of kinds.MemoryForRequest

-- where the refusal is want of memory, its number is one of these
abbrev pub MemoryNumberAmong : List ℕ → Refusal → Type 0
MemoryNumberAmong numbers refusal = list_any (λ n. n == memory_number refusal) numbers ≡ true

-- The numbers that want of memory can have in a request: 31 in each; 41 where files are searched for or read; 11 where
-- they are evaluated.
abbrev pub memory_numbers : RequestedAction → List ℕ
memory_numbers (load names) = 11 ∷ 31 ∷ 41 ∷ []
memory_numbers (unload names) = 11 ∷ 31 ∷ 41 ∷ []
memory_numbers (switch old new) = 11 ∷ 31 ∷ 41 ∷ []
memory_numbers purge = 11 ∷ 31 ∷ 41 ∷ []
memory_numbers list = 31 ∷ []
memory_numbers (avail texts) = 31 ∷ 41 ∷ []
memory_numbers (show names) = 11 ∷ 31 ∷ 41 ∷ []
memory_numbers (whatis names) = 11 ∷ 31 ∷ 41 ∷ []

-- the number of a refusal is that of its cause
abbrev pub number_of : Refusal → ℕ
number_of refusal = number_by (memory_number refusal) (cause_of refusal)

-- each refusal as the table has it
abbrev pub refusal_of : Refusal → NumberedText
refusal_of refusals.OutOfMemory = about kinds.MemoryForRequest []
refusal_of (refusals.Run refused) = runs.refusal_of refused.stop
refusal_of (refusals.Find fault) = finds.refusal_of fault
refusal_of (refusals.Env fault) = edits.refusal_of fault
refusal_of refusals.BadArguments = about kinds.BadArguments []
refusal_of (refusals.UnknownSubcommand word) = about kinds.UnknownSubcommand (string_bytes word)
refusal_of (refusals.ConflictWith name) = about kinds.ConflictWith (string_bytes name)
refusal_of (refusals.PrereqMissing missing) = about kinds.PrereqMissing (spaced (texts_in missing.names))
refusal_of (refusals.StillNeededBy name) = about kinds.StillNeededBy (string_bytes name)
refusal_of (refusals.FileGone path) = about kinds.FileGone (string_bytes path)
refusal_of (refusals.NotAModulefile path) = about kinds.NotAModulefile (string_bytes path)

-- the text of each refusal
abbrev pub message_of : Refusal → Text
message_of refusal = (refusal_of refusal).text
