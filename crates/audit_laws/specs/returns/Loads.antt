-- How the load of a certified module ends, and a switch to it (own; `load` and `switch` of module(1)).
use Rattle.std.specs.Prelude.{◌≡◌, ◌⊎◌, Result, Ok, Err}
use Rattle.envvars.specs.Texts.{Text}
use Rattle.envvars.specs.Reasons.{counter_full}
use Rattle.modulefile.specs.Judgments.{bad_edit}
use Rattle.modulefile.specs.Answers.{refusal_of}
use Rattle.modulefile.specs.Files.{FileStop, refused}
use Rattle.requests.specs.Reasons.{RequestReason, conflict_with, prereq_missing, still_needed_by, file_refused}
use Rattle.requests.specs.Steps.{Done}

-- a command of a file was refused for a full counter
abbrev pub IsFullCounter : FileStop → Type 0
IsFullCounter (refused refusal) = (v : Text) × (refusal ≡ refusal_of (bad_edit (counter_full v)))
IsFullCounter stop = ⊥

-- A reason of one of three kinds: a conflict (51), a prereq (52) or a full counter (34). Which one it is isn't said.
abbrev pub MayForbidLoad : RequestReason → Type 0
MayForbidLoad (conflict_with name) = Unit {0}
MayForbidLoad (prereq_missing names) = Unit {0}
MayForbidLoad (file_refused reason) = IsFullCounter reason.stop
MayForbidLoad reason = ⊥

-- It is accepted, or refused by a reason of these kinds.
abbrev pub IsAcceptedOrForbidden : Result Done RequestReason → Type 0
IsAcceptedOrForbidden (Ok done) = Unit {0}
IsAcceptedOrForbidden (Err reason) = MayForbidLoad reason

-- A reason of these kinds, or that a module is still needed (53).
abbrev pub MayForbidSwitch : RequestReason → Type 0
MayForbidSwitch reason = MayForbidLoad reason ⊎ ((name : Text) × (reason ≡ still_needed_by name))

-- It is accepted, or refused by a reason of these kinds.
abbrev pub IsSwitchedOrForbidden : Result Done RequestReason → Type 0
IsSwitchedOrForbidden (Ok done) = Unit {0}
IsSwitchedOrForbidden (Err reason) = MayForbidSwitch reason
