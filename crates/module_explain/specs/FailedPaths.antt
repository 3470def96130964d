-- The path at which the device failed in a request (own).
use Rattle.std.specs.Prelude.{◌≡◌, ◌⊎◌, ℕ, Bool, true, List, bytes_eq, map, string_bytes, vec_items, String, Option, Some}
use Rattle.std.specs.Prelude.{None}
use Rattle.std.specs.List.{list_any}
use Rattle.std.specs.declared.vec.Vec.{Vec}
use Rattle.std.specs.declared.alloc.Global.{Global}
use Rattle.envvars.specs.Environment.{Environment}
use Rattle.envvars.specs.Texts.{Text}
use Rattle.filetree.specs.Agreement.{Files, Listings, InEachPair}
use Rattle.filetree.specs.Causes.{Cause, Applies}
use Rattle.requests.specs.Looked.{RequestLooksAt}
use Rattle.requests.specs.Requests.{RequestedAction}
use Rattle.requests.specs.Steps.{request_context_in}
use Rattle.shelltext.specs.declared.shell.Shell.{Shell}
use Rattle.tclrules.specs.declared.limits.Limits.{Limits}
use Rattle.module_explain.specs.Advised.{IsRefused}
use Rattle.module_explain.specs.Explained.{StepIsDone}

-- the cause is the device only where this holds, as that it has failed in the call
abbrev pub IsDeviceOnlyIf : {R : Type 0} → Cause R → Type 0 → Type 0
IsDeviceOnlyIf cause failed = Applies cause failed (λ reason. Unit {0})

-- the path is among those that a watched tree has kept
abbrev pub is_kept : Vec (String Global) Global → List ℕ → Bool
is_kept kept path = list_any (bytes_eq path) (map string_bytes (vec_items kept))

-- by each pair of maps that agrees the request looks at this path
abbrev pub IsLookedAt : (Files → Listings → Type 0) → Limits → Shell → Environment → RequestedAction → Text → Type 0
IsLookedAt agrees limits shell e action path =
    InEachPair agrees (λ files listings.
    RequestLooksAt (request_context_in limits shell files listings) e action path)

-- The device has failed, at this path, at which the request looks; or the step of the request is done, or refused for a
-- reason.
abbrev pub IsAnswer : (Files → Listings → Type 0) → Type 0 → (Text → Bool) → Limits → Shell → Environment
    → RequestedAction → Option (String Global) → Type 0
IsAnswer agrees fails failed limits shell e action (Some path) =
    fails × (failed (string_bytes path) ≡ true) × IsLookedAt agrees limits shell e action (string_bytes path)
IsAnswer agrees fails failed limits shell e action None =
    StepIsDone agrees limits shell e action ⊎ IsRefused agrees limits shell e action
