-- The session of lines (own): each line makes a request, or has a reason why it makes none.
use Rattle.std.specs.Prelude.{◌≡◌, true, List, [], ◌∷◌, Result, Ok, Err}
use Rattle.envvars.specs.Texts.{Text}
use Rattle.envvars.specs.Environment.{Environment}
use Rattle.shelltext.specs.declared.shell.Shell.{Shell}
use Rattle.filetree.specs.Relations.{Is, ◌>>◌}
use Rattle.requests.specs.Looked.{OneLooksAt, RequestLooksAt}
use Rattle.requests.specs.Reasons.{RequestReason}
use Rattle.requests.specs.Requests.{RequestedAction, Request, request_of}
use Rattle.requests.specs.Sessions.{Response, accepted, refused, given_up, is_given_up_by, env_after}
use Rattle.requests.specs.Steps.{RequestContext, Done, RequestStep}

-- the step of a line: that of the request which its words make, or the reason why they make none
abbrev pub LineStep : RequestContext → Environment → List Text → Result Done RequestReason → Type 0
LineStep s e words = Is (request_of words) >> RequestStep s e

-- an accepted or refused line has the outcome of its step; one that was given up has a cause
abbrev pub IsLineResponse : RequestContext → Environment → List Text → Response → Type 0
IsLineResponse s e words (accepted d) = LineStep s e words (Ok d)
IsLineResponse s e words (refused reason) = LineStep s e words (Err reason)
IsLineResponse s e words (given_up number) = is_given_up_by number ≡ true

-- From an environment, the lines have these responses: each in the environment after those before it.
abbrev pub LineSession : RequestContext → Environment → List (List Text) → List Response → Type 0
LineSession s e [] [] = Unit {0}
LineSession s e [] (o ∷ os) = ⊥
LineSession s e (words ∷ lines) [] = ⊥
LineSession s e (words ∷ lines) (o ∷ os) = IsLineResponse s e words o × LineSession s (env_after e o) lines os

-- The request that the words of a line make looks at this path.
abbrev pub LineLooksAt : RequestContext → Environment → List Text → Text → Type 0
LineLooksAt s e words at =
    (action : RequestedAction) × (request_of words ≡ Ok action) × RequestLooksAt s e action at

-- A line of the session looks at this path.
abbrev pub LinesLookAt : RequestContext → Environment → List (List Text) → Text → Type 0
LinesLookAt s e lines at = OneLooksAt (LineLooksAt s) (IsLineResponse s) e lines at

-- these requests after that of a line, if it makes one
abbrev pub with_request : Shell → Result RequestedAction RequestReason → List Request → List Request
with_request shell (Ok action) rs = (shell, action) ∷ rs
with_request shell (Err reason) rs = rs

-- the requests of the lines that make one, in order
abbrev pub requests_in : Shell → List (List Text) → List Request
requests_in shell [] = []
requests_in shell (words ∷ lines) = with_request shell (request_of words) (requests_in shell lines)

-- these responses after that of a line, if it makes a request
abbrev pub with_response : Result RequestedAction RequestReason → Response → List Response → List Response
with_response (Ok action) o os = o ∷ os
with_response (Err reason) o os = os

-- the responses of the lines that make a request, in order
abbrev pub request_responses : List (List Text) → List Response → List Response
request_responses [] os = []
request_responses (words ∷ lines) [] = []
request_responses (words ∷ lines) (o ∷ os) = with_response (request_of words) o (request_responses lines os)
