-- What a request's answer promises: the outcome that the definitions have, or a refusal with its cause (own).
use Rattle.std.specs.Prelude.{Bool, true, false, Option, Some, None, Result, Ok, Err, string_bytes}
use Rattle.envvars.specs.Texts.{texts_in}
use Rattle.envvars.specs.Reasons.{reason_of}
use Rattle.filetree.specs.Agreement.{Files, Listings}
use Rattle.filetree.specs.Causes as causes
use Rattle.filetree.specs.Causes.{Cause, Applies, memory, device, because}
use Rattle.search.specs.declared.find_fault.FindFault.TheVariants as finds
use Rattle.filetree.specs.declared.tree.TreeFault.{TreeFault}
use Rattle.filetree.specs.declared.tree.TreeFault.TheVariants as trees
use Rattle.modulefile.specs.Judgments.{bad_edit}
use Rattle.search.specs.Answers.{cause_of as find_cause}
use Rattle.modulefile_run.specs.Running.{file_reason_of}
use Rattle.search.specs.Reasons as search
use Rattle.requests.specs.Reasons.{RequestReason, bad_arguments, unknown_subcommand, missed, file_gone}
use Rattle.requests.specs.Reasons.{not_a_modulefile, file_refused, conflict_with, prereq_missing, still_needed_by}
use Rattle.requests.specs.Reasons.{refused_edit}
use Rattle.modules.specs.declared.refusal.Refusal.{Refusal}
use Rattle.modules.specs.declared.refusal.Refusal.TheVariants as refusals

-- the cause: the reason where there is one, else want of memory
abbrev pub by_reason : {R : Type 0} → (R → RequestReason) → Option R → Cause RequestReason
by_reason view None = memory
by_reason view (Some r) = because (view r)

-- the cause of a search, as that of a request
abbrev pub by_search : Cause search.FindReason → Cause RequestReason
by_search memory = memory
by_search device = device
by_search (because r) = because (missed r)

-- the cause of each refusal
abbrev pub cause_of : Refusal → Cause RequestReason
cause_of refusals.OutOfMemory = memory
cause_of (refusals.Run refused) = by_reason file_refused (file_reason_of refused)
cause_of (refusals.Find fault) = by_search (find_cause fault)
cause_of (refusals.Env fault) = by_reason (λ r. refused_edit (bad_edit r)) (reason_of fault)
cause_of refusals.BadArguments = because bad_arguments
cause_of (refusals.UnknownSubcommand word) = because (unknown_subcommand (string_bytes word))
cause_of (refusals.ConflictWith name) = because (conflict_with (string_bytes name))
cause_of (refusals.PrereqMissing missing) = because (prereq_missing (texts_in missing.names))
cause_of (refusals.StillNeededBy name) = because (still_needed_by (string_bytes name))
cause_of (refusals.FileGone path) = because (file_gone (string_bytes path))
cause_of (refusals.NotAModulefile path) = because (not_a_modulefile (string_bytes path))

-- it is a device that failed
abbrev pub is_of_device : Cause RequestReason → Bool
is_of_device memory = false
is_of_device device = true
is_of_device (because r) = false

-- the refusal is by 43
abbrev pub is_failure : Refusal → Bool
is_failure refusal = is_of_device (cause_of refusal)

-- The answer of a call without a tree: the value, seen by view, is an outcome; or the refusal is one, or has another
-- cause.
abbrev pub GivesOrRefuses : {X Y : Type 0} → (X → Y) → Result X Refusal → (Result Y RequestReason → Type 0)
    → Type 0
GivesOrRefuses view (Ok x) Comes = Comes (Ok (view x))
GivesOrRefuses view (Err e) Comes = Applies (cause_of e) ⊥ (λ r. Comes (Err r))

-- the answer of a call over a tree, whose faults are refusals
abbrev pub StepAnswersOverTree : {X Y : Type 0} → (Files → Listings → Type 0) → Type 0 → (X → Y) → Result X Refusal
    → (Files → Listings → Result Y RequestReason → Type 0) → Type 0
StepAnswersOverTree = causes.AnswersOverTree cause_of

-- a tree's fault, as a refusal
abbrev pub refused_read : TreeFault → Refusal
refused_read trees.OutOfMemory = refusals.Find finds.OutOfMemory
refused_read trees.Device = refusals.Find finds.Device
