-- What `forget` answers, and why there is no answer (own; the texts: docs/REFUSALS.md).
use Rattle.std.specs.Prelude.{◌≡◌, ◌⊎◌, Bool, true, false, List, [], Option, Some, None, Result, Ok, Err, codes, string_bytes}
use Rattle.message.specs.Messages.{around}
use Rattle.envvars.specs.Texts.{Text, texts_in}
use Rattle.envvars.specs.Changes.{new_values_in}
use Rattle.envvars.specs.Environment.{Environment}
use Rattle.envvars.specs.Reasons as edits
use Rattle.envvars.specs.Reasons.{EnvReason}
use Rattle.envstate.specs.loaded_list.Loaded.{Entry, loaded_in}
use Rattle.filetree.specs.Agreement as trees
use Rattle.filetree.specs.Agreement.{Files, Listings, InEachPair}
use Rattle.filetree.specs.Causes.{Applies, Cause, memory, device, because}
use Rattle.filetree.specs.declared.tree.TreeFault.TheVariants as faults_of_trees
use Rattle.shelltext.specs.Printing as printing
use Rattle.shelltext.specs.Printing.{LacksText}
use Rattle.shelltext.specs.Reading.{SaysDifference, TextSays}
use Rattle.shelltext.specs.declared.print.PrintFault.TheVariants as prints
use Rattle.shelltext.specs.declared.shell.Shell.{Shell}
use Rattle.module_restore.specs.forgetting.Forgets.{Forgets, Forgetting, ForgetReason, entries_of, file_there, gone, not_loaded, refused_edit}
use Rattle.module_restore.specs.declared.forgetting.fault.ForgetFault.{ForgetFault}
use Rattle.module_restore.specs.declared.forgetting.fault.ForgetFault.TheVariants as faults
use Rattle.module_restore.specs.declared.forgetting.fault.ForgetRefusal.{ForgetRefusal}
use Rattle.module_restore.specs.declared.forgetting.fault.ForgetRefusal.TheVariants as refusals
use Rattle.module_restore.specs.declared.forgetting.names.Forgotten.{Forgotten}

-- the cause of an edit that is refused
abbrev pub by_edit : Option EnvReason → Cause ForgetReason
by_edit None = memory
by_edit (Some reason) = because (refused_edit reason)

-- the cause of each refusal
abbrev pub cause_of : ForgetRefusal → Cause ForgetReason
cause_of (refusals.Env fault) = by_edit (edits.reason_of fault)
cause_of (refusals.Tree faults_of_trees.OutOfMemory) = memory
cause_of (refusals.Tree faults_of_trees.Device) = device
cause_of (refusals.NotLoaded name) = because (not_loaded (string_bytes name))
cause_of (refusals.FileThere path) = because (file_there (string_bytes path))

-- the refusal is by 43
abbrev pub is_of_device : Cause ForgetReason → Bool
is_of_device memory = false
is_of_device device = true
is_of_device (because reason) = false

abbrev pub is_failure : ForgetRefusal → Bool
is_failure refusal = is_of_device (cause_of refusal)

-- what something comes to over the files of a tree
abbrev pub Outcomes : Type 1
Outcomes = Files → Listings → Result Forgetting ForgetReason → Type 0

abbrev pub ForgetsOver : Bool → Environment → List Text → Outcomes
ForgetsOver settings_stay e names files listings = Forgets settings_stay files e names

-- The answer: in each pair of maps that agrees with the tree the same is forgotten, the text says exactly the difference
-- that this makes of the environment, as the shell reads it, and these are the changes and the names.
abbrev pub IsAnswer : (Files → Listings → Type 0) → Shell → Bool → Environment → List Text → Forgotten → Type 0
IsAnswer agrees shell settings_stay e names a =
    (d : Forgetting) × InEachPair agrees (λ files listings. ForgetsOver settings_stay e names files listings (Ok d))
    × SaysDifference shell (string_bytes a.text) e d.env
    × TextSays shell (string_bytes a.text) (new_values_in a.changes)
    × (texts_in a.names ≡ d.names)

-- Why there is no answer: memory is wanting, the device has failed, it is refused for this reason in each pair of maps
-- that agrees with the tree, or what it comes to has changes without a text in the shell.
abbrev pub IsForgetFault : (Files → Listings → Type 0) → Type 0 → Shell → Bool → Environment → List Text → ForgetFault
    → Type 0
IsForgetFault agrees failed shell settings_stay e names (faults.Refused refusal) =
    Applies (cause_of refusal) failed
    (λ reason. InEachPair agrees (λ files listings. ForgetsOver settings_stay e names files listings (Err reason)))
IsForgetFault agrees failed shell settings_stay e names (faults.Unprinted prints.OutOfMemory) = Unit {0}
IsForgetFault agrees failed shell settings_stay e names (faults.Unprinted (prints.NotSayable name)) =
    (d : Forgetting) × InEachPair agrees (λ files listings. ForgetsOver settings_stay e names files listings (Ok d))
    × LacksText shell e d.env (string_bytes name)

-- these are the names of the loaded modules whose files are gone
abbrev pub AreGone : (Files → Listings → Type 0) → Environment → List Text → Type 0
AreGone agrees e names =
    (entries : List Entry) × (loaded_in e ≡ Some entries)
    × InEachPair agrees (λ files listings. names ≡ gone files entries)

-- The way out: `forget` is accepted with the loaded modules whose files are gone.
abbrev pub IsWayOut : (Files → Listings → Type 0) → Shell → Environment → List Text → Type 0
IsWayOut agrees shell e names =
    AreGone agrees e names × ((a : Forgotten) × IsAnswer agrees shell false e names a)

-- There is no such module.
abbrev pub NoneIsGone : (Files → Listings → Type 0) → Environment → Type 0
NoneIsGone agrees e = AreGone agrees e []

-- The loaded modules can't be looked at: their lists don't fit together, memory is wanting, or the device has failed.
abbrev pub IsUnread : Type 0 → Environment → ForgetFault → Type 0
IsUnread failed e (faults.Refused refusal) = Applies (cause_of refusal) failed (λ reason. entries_of e ≡ Err reason)
IsUnread failed e (faults.Unprinted fault) = ⊥

-- Why none is found: they can't be looked at, or `forget` isn't answered with those whose files are gone.
abbrev pub IsNoWayOut : (Files → Listings → Type 0) → Type 0 → Shell → Environment → ForgetFault → Type 0
IsNoWayOut agrees failed shell e fault =
    IsUnread failed e fault
    ⊎ ((names : List Text) × AreGone agrees e names × IsForgetFault agrees failed shell false e names fault)

-- what stands behind `ERROR: `
abbrev pub refusal_message : ForgetRefusal → Text
refusal_message (refusals.Env fault) = (edits.refusal_of fault).text
refusal_message (refusals.Tree fault) = (trees.refusal_of fault).text
refusal_message (refusals.NotLoaded name) = around (codes "'") (string_bytes name) (codes "' isn't loaded")
refusal_message (refusals.FileThere path) =
    around (codes "There is a file at '") (string_bytes path) (codes "': unload its module, or say --settings-stay")

abbrev pub message_of : ForgetFault → Text
message_of (faults.Refused refusal) = refusal_message refusal
message_of (faults.Unprinted fault) = (printing.refusal_of fault).text
