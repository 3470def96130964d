-- The causes of refusals that say nothing of what is asked for (own).
use Rattle.std.specs.Prelude.{Bool, true, false}
use Rattle.filetree.specs.Causes.{Cause, memory, device, because}
use Rattle.requests.specs.Reasons.{RequestReason}

-- memory ran out, or the device failed: there is no reason in the files
abbrev pub is_transient : Cause RequestReason → Bool
is_transient memory = true
is_transient device = true
is_transient (because reason) = false
