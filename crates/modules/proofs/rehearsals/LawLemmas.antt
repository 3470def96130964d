-- A session of lines is a session of their requests.
use Rattle.std.proofs.Common.{◌≡◌, true, List, [], ◌∷◌, Result, Ok, Err, refl, subst}
use Rattle.envvars.specs.Texts.{Text}
use Rattle.envvars.specs.Environment.{Environment}
use Rattle.shelltext.specs.declared.shell.Shell.{Shell}
use Rattle.filetree.specs.Relations.{After}
use Rattle.requests.specs.Reasons.{RequestReason}
use Rattle.requests.specs.Requests.{RequestedAction, Request, request_of}
use Rattle.requests.specs.Sessions.{Response, accepted, refused, given_up, IsResponse, Session, env_after, in_shell}
use Rattle.requests.specs.Sessions.{is_given_up_by, end_environment, session_moves}
use Rattle.requests.specs.Steps.{RequestContext, Done, RequestStep}
use Rattle.modules.specs.rehearsals.Laws.{LinesRun}
use Rattle.modules.specs.rehearsals.Sessions.{IsLineResponse, request_responses, requests_in, with_request, with_response}

-- a response, by what came of making a request
abbrev pub Responds : RequestContext → Environment → Result RequestedAction RequestReason → Response → Type 0
Responds s e made (accepted d) = After (RequestStep s e) made (Ok d)
Responds s e made (refused reason) = After (RequestStep s e) made (Err reason)
Responds s e made (given_up number) = is_given_up_by number ≡ true

responds : (s : RequestContext) (e : Environment) (words : List Text) (o : Response) → IsLineResponse s e words o → Responds s e (request_of words) o
responds s e words (accepted d) (made, is, h) =
    let P : Result RequestedAction RequestReason → Type 0 = λ x. After (RequestStep s e) x (Ok d) in subst P is h
responds s e words (refused reason) (made, is, h) =
    let P : Result RequestedAction RequestReason → Type 0 = λ x. After (RequestStep s e) x (Err reason) in subst P is h
responds s e words (given_up number) h = h

-- what holds of a session that continues after some responses
abbrev pub Runs : RequestContext → Environment → List Request → List Response → List Response → Type 0
Runs s e rs given os = Session s e rs given × (end_environment e given ≡ end_environment e os) × (session_moves given ≡ session_moves os)

made_responds : (s : RequestContext) (e : Environment) (asked : RequestedAction) (o : Response) → Responds s e (Ok asked) o → IsResponse s e asked o
made_responds s e asked (accepted d) h = h
made_responds s e asked (refused reason) h = h
made_responds s e asked (given_up number) h = h

no_done : (d : Done) (reason : RequestReason) → ◌≡◌ {A = Result Done RequestReason} (Ok d) (Err reason) → ⊥
no_done d reason z = cc

same_moves : (o : Response) (given os : List Response) → session_moves given ≡ session_moves os → session_moves (o ∷ given) ≡ session_moves (o ∷ os)
same_moves (accepted d) given os h = rw h refl
same_moves (refused reason) given os h = h
same_moves (given_up number) given os h = h

more_runs : (s : RequestContext) (shell : Shell) (e : Environment) (made : Result RequestedAction RequestReason) (o : Response) (rs : List Request) (given os : List Response)
    → Responds (in_shell s shell) e made o → Runs s (env_after e o) rs given os → Runs s e (with_request shell made rs) (with_response made o given) (o ∷ os)
more_runs s shell e (Ok asked) o rs given os is h = ((made_responds (in_shell s shell) e asked o is, h.0), h.1, same_moves o given os h.2)
more_runs s shell e (Err reason) (accepted d) rs given os is h = absurd (no_done d reason is)
more_runs s shell e (Err reason) (refused r) rs given os is h = h
more_runs s shell e (Err reason) (given_up number) rs given os is h = h

pub lines_run : LinesRun
lines_run s shell e [] [] h = (tt, refl, refl)
lines_run s shell e [] (o ∷ os) h = absurd h
lines_run s shell e (words ∷ lines) [] h = absurd h
lines_run s shell e (words ∷ lines) (o ∷ os) h =
    more_runs s shell e (request_of words) o (requests_in shell lines) (request_responses lines os) os (responds (in_shell s shell) e words o h.0) (lines_run s shell (env_after e o) lines os h.1)
