-- The outcomes of a session, as the responses of the definitions.
use Rattle.std.specs.Prelude.{◌≡◌, ℕ, Bool, false, ◌+◌, List, [], ◌∷◌, ◌++◌, Result, Ok, Err}
use Rattle.envvars.specs.Texts.{Text}
use Rattle.envvars.specs.Environment.{Environment}
use Rattle.modulefile.specs.Moves.{all_moved}
use Rattle.reversal.specs.VariableUses.{VariableUse}
use Rattle.reversal.specs.Starts.{IsStart}
use Rattle.reversal.specs.Runs.{live_after}
use Rattle.reversal.specs.Laws.{Holds}
use Rattle.requests.specs.Sessions as sessions
use Rattle.requests.specs.Sessions.{Response, accepted, refused, given_up, env_after, session_moves}
use Rattle.requests.specs.Returning.{AreNew, AreReversibleBeside}
use Rattle.requests.specs.Reasons.{RequestReason}
use Rattle.filetree.specs.Causes.{Cause, memory, device, because}
use Rattle.modules.specs.Answers.{cause_of, is_failure}
use Rattle.modules.specs.Messages.{number_of}
use Rattle.modules.specs.MoveViews.{moves_of}
use Rattle.modules.specs.Views.{done_view}
use Rattle.modules.specs.declared.done.RequestResults.{RequestResults}
use Rattle.modules.specs.declared.sessions.Outcome.{Outcome}
use Rattle.modules.specs.declared.sessions.Outcome.TheVariants.{Accepted, Refused}

-- the new environment, or the old one where there is none
abbrev pub accepted_in : {R : Type 0} → Environment → Result Environment R → Environment
accepted_in e (Ok new) = new
accepted_in e (Err reason) = e

-- the environment that the moves of a request make
abbrev pub env_after_moves : Environment → RequestResults → Environment
env_after_moves e done = accepted_in e (all_moved (moves_of done.moves) e)

-- a refusal as a response: given up by its number where its cause is no reason of the step
abbrev pub by_cause : ℕ → Cause RequestReason → Response
by_cause number memory = given_up number
by_cause number device = given_up number
by_cause number (because reason) = refused reason

-- an outcome as a response, in the environment in which its request was run
abbrev pub response_of : Environment → Outcome → Response
response_of e (Accepted done) = accepted (done_view done (env_after_moves e done))
response_of e (Refused refusal) = by_cause (number_of refusal) (cause_of refusal)

-- outcomes as responses, one after another
abbrev pub responses : Environment → List Outcome → List Response
responses e [] = []
responses e (o ∷ os) = response_of e o ∷ responses (env_after e (response_of e o)) os

-- it was refused because the device failed
abbrev pub has_failed : Outcome → Bool
has_failed (Accepted done) = false
has_failed (Refused refusal) = is_failure refusal

-- one for a cause that is a failed device
abbrev pub count_cause : Cause RequestReason → ℕ
count_cause memory = 0
count_cause device = 1
count_cause (because reason) = 0

-- one for a request that was refused because the device failed
abbrev pub count_one : Outcome → ℕ
count_one (Accepted done) = 0
count_one (Refused refusal) = count_cause (cause_of refusal)

-- how many requests were refused because the device failed
abbrev pub count_failed : List Outcome → ℕ
count_failed [] = 0
count_failed (o ∷ os) = count_one o + count_failed os

-- Where the start is in order, and the moves are of new modules that are reversible and apart: after each first part of
-- the session the environment is in order and is the start with the live modules layered on it. With none it is the
-- start.
abbrev pub Returns : Environment → List Response → Type 0
Returns start os =
    (uses : Text → VariableUse) → IsStart uses start → AreNew start (session_moves os)
    → AreReversibleBeside uses [] (session_moves os) → (before after : List Response) → os ≡ before ++ after
    → Holds uses start (live_after [] (session_moves before)) (sessions.end_environment start before)
