-- The parts of a dry run, for the contracts of this crate's private functions.
use Rattle.std.specs.Prelude.{◌≡◌, ◌<◌, ℕ, Bool, true, false, List, [], ◌∷◌, ◌++◌, length, map, Option, Some, None}
use Rattle.std.specs.Prelude.{Result, Ok, Err}
use Rattle.envvars.specs.Texts.{Text}
use Rattle.envvars.specs.Environment.{Environment}
use Rattle.envvars.specs.Changes.{NewValue}
use Rattle.envstate.specs.loaded_list.Loaded.{Entry, loaded_in}
use Rattle.filetree.specs.Causes.{Cause, memory, device, because}
use Rattle.requests.specs.Reasons.{RequestReason}
use Rattle.requests.specs.Steps.{RequestContext, Done}
use Rattle.modules.specs.Answers.{cause_of, is_failure}
use Rattle.modules.specs.Responses.{count_cause}
use Rattle.modules.specs.Views.{done_view}
use Rattle.modules.specs.declared.done.RequestResults.{RequestResults}
use Rattle.modules.specs.declared.refusal.Refusal.{Refusal}
use Rattle.audit_dry_runs.specs.DryRuns.{DryRun, returns, leaves, load_refused, unload_refused, already_loaded, loads_another}
use Rattle.audit_dry_runs.specs.DryRuns.{AreLeft, IsRefusedBy, UnloadStep, lost_among}

-- it is want of memory
abbrev pub is_of_memory : Cause RequestReason → Bool
is_of_memory memory = true
is_of_memory device = false
is_of_memory (because reason) = false

-- The outcome of a request: what it did, with the environment after it, is that of its step; or it is refused.
abbrev pub IsOutcome : (Result Done RequestReason → Type 0) → Environment → Result RequestResults Refusal → Type 0
IsOutcome Step e (Ok done) = Step (Ok (done_view done e))
IsOutcome Step e (Err refusal) = IsRefusedBy (cause_of refusal) Step

-- one for an outcome that is the failure of a device
abbrev pub count_outcome : Result RequestResults Refusal → ℕ
count_outcome (Ok done) = 0
count_outcome (Err refusal) = count_cause (cause_of refusal)

-- the outcome is the failure of a device
abbrev pub has_failed_outcome : Result RequestResults Refusal → Bool
has_failed_outcome (Ok done) = false
has_failed_outcome (Err refusal) = is_failure refusal

-- so is one that was given
abbrev pub is_failed_outcome : Result (Result RequestResults Refusal) Refusal → Bool
is_failed_outcome (Ok outcome) = has_failed_outcome outcome
is_failed_outcome (Err refusal) = false

-- the last module of the loaded list
abbrev pub IsLastLoaded : Option (List Entry) → Option Entry → Type 0
IsLastLoaded list (Some x) = (before : List Entry) × (list ≡ Some (before ++ x ∷ []))
IsLastLoaded list None = (before : List Entry) (x : Entry) → list ≡ Some (before ++ x ∷ []) → ⊥

-- the module that a load of these names put at the end of the loaded list; none where it loaded no name
abbrev pub IsJoined : List Text → Environment → Option Entry → Type 0
IsJoined [] e found = found ≡ None
IsJoined (name ∷ names) e found = IsLastLoaded (loaded_in e) found

-- what the unload of the name makes of the dry run, from the environment of its load
abbrev pub EndsDryRun : RequestContext → List Text → Environment → Environment → Text → DryRun → Type 0
EndsDryRun s not_utf8 start e name returns =
    (back : Done) × UnloadStep s e name (Ok back) × (back.env ≡ start) × (lost_among not_utf8 e back.env ≡ [])
EndsDryRun s not_utf8 start e name (leaves names) =
    (back : Done) × UnloadStep s e name (Ok back) × AreLeft start back.env (lost_among not_utf8 e back.env) names
EndsDryRun s not_utf8 start e name (load_refused cause) = ⊥
EndsDryRun s not_utf8 start e name (unload_refused cause) = IsRefusedBy cause (UnloadStep s e name)
EndsDryRun s not_utf8 start e name already_loaded = ⊥
EndsDryRun s not_utf8 start e name (loads_another other at) = ⊥

-- the names of changed variables, and then these
abbrev pub names_left : List NewValue → List Text → List Text
names_left changes lost = map (λ c. c.0) changes ++ lost

-- what the variables that are left otherwise make of a dry run
abbrev pub IsDifference : List Text → DryRun → Type 0
IsDifference left returns = left ≡ []
IsDifference left (leaves names) = (0 < length left) × (names ≡ left)
IsDifference left (load_refused cause) = ⊥
IsDifference left (unload_refused cause) = ⊥
IsDifference left already_loaded = ⊥
IsDifference left (loads_another other at) = ⊥
