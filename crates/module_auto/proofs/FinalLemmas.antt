-- Refusals for which nothing is put in.
use Rattle.std.proofs.Common.{◌≡◌, true, List, Option, Some, None, refl}
use Rattle.envvars.specs.Texts.{Text}
use Rattle.envvars.specs.Environment.{Environment}
use Rattle.filetree.specs.Causes.{Applies, Cause, memory, device, because}
use Rattle.modulefile.specs.Judgments.{bad_edit}
use Rattle.search.specs.Answers as search
use Rattle.search.specs.Reasons.{FindReason}
use Rattle.requests.specs.Reasons.{RequestReason, file_refused, missed, refused_edit}
use Rattle.requests.specs.Steps.{RequestContext}
use Rattle.modules.specs.Answers.{by_reason, by_search, cause_of}
use Rattle.modules.specs.declared.missing.MissingNames.{MissingNames}
use Rattle.modules.specs.declared.refusal.Refusal.{Refusal}
use Rattle.modules.specs.declared.refusal.Refusal.TheVariants as refusals
use Rattle.std.specs.Prelude.{String}
use Rattle.std.specs.declared.alloc.Global.{Global}
use Rattle.module_auto.specs.Loads as loads
use Rattle.module_auto.specs.Unloads as unloads
use Rattle.module_auto.specs.Views.{IsNotPut}

-- of a reason that no name is put in for
with_reason : {R : Type 0} (view : R → RequestReason) (o : Option R) (failed : Type 0) (P Q : RequestReason → Type 0) → ((r : R) → Q (view r)) → Applies (by_reason view o) failed P
    → Applies (by_reason view o) failed (λ r. P r × Q r)
with_reason view None failed P Q final h = tt
with_reason view (Some r) failed P Q final h = (h, final r)

with_search : (c : Cause FindReason) (failed : Type 0) (P Q : RequestReason → Type 0) → ((r : FindReason) → Q (missed r)) → Applies (by_search c) failed P → Applies (by_search c) failed (λ r. P r × Q r)
with_search memory failed P Q final h = tt
with_search device failed P Q final h = h
with_search (because r) failed P Q final h = (h, final r)

-- for a reason of this kind nothing is put in, whatever the names are
abbrev pub IsOther : RequestReason → Type 0
IsOther reason = (loads.is_other reason ≡ true) × ((s : RequestContext) (e : Environment) (added names : List Text) → loads.IsFinal s e added names reason)

-- The load is refused by another number than 52.
pub final_load : (refusal : Refusal) (failed : Type 0) (P : RequestReason → Type 0)
    → ((m : MissingNames) → refusal ≡ refusals.PrereqMissing m → ⊥) → Applies (cause_of refusal) failed P
    → Applies (cause_of refusal) failed (λ r. P r × IsOther r)
final_load refusals.OutOfMemory failed P not h = tt
final_load (refusals.Run fault) failed P not h =
    with_reason file_refused _ failed P IsOther (λ r. (refl, λ s e added names. tt)) h
final_load (refusals.Find fault) failed P not h =
    with_search (search.cause_of fault) failed P IsOther (λ r. (refl, λ s e added names. tt)) h
final_load (refusals.Env fault) failed P not h =
    with_reason (λ r. refused_edit (bad_edit r)) _ failed P IsOther (λ r. (refl, λ s e added names. tt)) h
final_load refusals.BadArguments failed P not h = (h, (refl, λ s e added names. tt))
final_load (refusals.UnknownSubcommand word) failed P not h = (h, (refl, λ s e added names. tt))
final_load (refusals.ConflictWith name) failed P not h = (h, (refl, λ s e added names. tt))
final_load (refusals.PrereqMissing m) failed P not h = absurd (not m refl)
final_load (refusals.StillNeededBy name) failed P not h = (h, (refl, λ s e added names. tt))
final_load (refusals.FileGone path) failed P not h = (h, (refl, λ s e added names. tt))
final_load (refusals.NotAModulefile path) failed P not h = (h, (refl, λ s e added names. tt))

kept_reason : {R : Type 0} (view : R → RequestReason) (o : Option R) (added : List Text) → ((r : R) → unloads.IsFinal added (view r)) → IsNotPut (by_reason view o) added (by_reason view o)
kept_reason view None added final = tt
kept_reason view (Some r) added final = (refl, final r)

kept_search : (c : Cause FindReason) (added : List Text) → IsNotPut (by_search c) added (by_search c)
kept_search memory added = tt
kept_search device added = refl
kept_search (because r) added = (refl, tt)

-- The unload is refused by another number than 53.
pub final_unload : (added : List Text) (refusal : Refusal) → ((name : String Global) → refusal ≡ refusals.StillNeededBy name → ⊥) → IsNotPut (cause_of refusal) added (cause_of refusal)
final_unload added refusals.OutOfMemory not = tt
final_unload added (refusals.Run fault) not = kept_reason file_refused _ added (λ r. tt)
final_unload added (refusals.Find fault) not = kept_search (search.cause_of fault) added
final_unload added (refusals.Env fault) not = kept_reason (λ r. refused_edit (bad_edit r)) _ added (λ r. tt)
final_unload added refusals.BadArguments not = (refl, tt)
final_unload added (refusals.UnknownSubcommand word) not = (refl, tt)
final_unload added (refusals.ConflictWith name) not = (refl, tt)
final_unload added (refusals.PrereqMissing m) not = (refl, tt)
final_unload added (refusals.StillNeededBy name) not = absurd (not name refl)
final_unload added (refusals.FileGone path) not = (refl, tt)
final_unload added (refusals.NotAModulefile path) not = (refl, tt)
