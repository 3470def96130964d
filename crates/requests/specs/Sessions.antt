-- Sessions: requests one after another, each with one response (own).
use Rattle.std.specs.Prelude.{ℕ, ◌≡◌, ◌==◌, Bool, true, false, List, [], ◌∷◌, map, Ok, Err}
use Rattle.std.specs.List.{list_any}
use Rattle.envvars.specs.Environment.{Environment}
use Rattle.shelltext.specs.declared.shell.Shell.{Shell}
use Rattle.modulefile.specs.Moves.{Move}
use Rattle.reversal.specs.Requests as moves
use Rattle.reversal.specs.Requests.{all_moves}
use Rattle.requests.specs.Reasons.{RequestReason}
use Rattle.requests.specs.Requests.{RequestedAction, Request}
use Rattle.requests.specs.Steps.{RequestContext, Done, RequestStep, request_context_in}

-- The response to a request: accepted; refused for its reason; or given up because memory ran out, a device failed or
-- the shell has no text for a value. The number is that of the cause.
pub data Response : Type 0 where
  accepted : Done → Response
  refused : RequestReason → Response
  given_up : (number : ℕ) → Response

-- whether the number is that of a cause: 11, 31, 41 and 61 of memory (in an evaluation, a request, the search,
-- printing), 43 of a device, 62 of a value without a text
abbrev pub is_given_up_by : ℕ → Bool
is_given_up_by number = list_any (λ n. n == number) (11 ∷ 31 ∷ 41 ∷ 61 ∷ 43 ∷ 62 ∷ [])

-- an accepted or refused request has the outcome of its step; one that was given up has a cause
abbrev pub IsResponse : RequestContext → Environment → RequestedAction → Response → Type 0
IsResponse s e action (accepted d) = RequestStep s e action (Ok d)
IsResponse s e action (refused reason) = RequestStep s e action (Err reason)
IsResponse s e action (given_up number) = is_given_up_by number ≡ true

-- only an accepted request changes the environment
abbrev pub env_after : Environment → Response → Environment
env_after e (accepted d) = d.env
env_after e (refused reason) = e
env_after e (given_up number) = e

-- the environment after all of them
abbrev pub end_environment : Environment → List Response → Environment
end_environment e [] = e
end_environment e (o ∷ os) = end_environment (env_after e o) os

-- what a request is run over, for another shell
abbrev pub in_shell : RequestContext → Shell → RequestContext
in_shell s shell = request_context_in s.limits shell s.files s.listings

-- From an environment, the requests have these responses: each in the environment after those before it.
abbrev pub Session : RequestContext → Environment → List Request → List Response → Type 0
Session s e [] [] = Unit {0}
Session s e [] (o ∷ os) = ⊥
Session s e (r ∷ rs) [] = ⊥
Session s e (r ∷ rs) (o ∷ os) = IsResponse (in_shell s r.0) e r.1 o × Session s (env_after e o) rs os

-- the moves of a response
abbrev pub outcome_of : Response → moves.RequestOutcome
outcome_of (accepted d) = moves.accepted d.moves
outcome_of (refused reason) = moves.refused
outcome_of (given_up number) = moves.refused

-- the moves of the accepted requests, in order
abbrev pub session_moves : List Response → List Move
session_moves os = all_moves (map outcome_of os)

-- not given up
abbrev pub is_decided : Response → Bool
is_decided (accepted d) = true
is_decided (refused reason) = true
is_decided (given_up number) = false
