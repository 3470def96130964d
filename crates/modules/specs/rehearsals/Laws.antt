-- The law of the session of lines (own).
use Rattle.std.specs.Prelude.{◌≡◌, List}
use Rattle.envvars.specs.Texts.{Text}
use Rattle.envvars.specs.Environment.{Environment}
use Rattle.shelltext.specs.declared.shell.Shell.{Shell}
use Rattle.requests.specs.Sessions.{Response, Session, in_shell, end_environment, session_moves}
use Rattle.requests.specs.Steps.{RequestContext}
use Rattle.modules.specs.rehearsals.Sessions.{LineSession, requests_in, request_responses}

-- A session of lines is the session of their requests: a line that makes none changes no variable, and moves nothing.
abbrev pub LinesRun : Type 0
LinesRun =
    (s : RequestContext) (shell : Shell) (e : Environment) (lines : List (List Text)) (os : List Response)
    → LineSession (in_shell s shell) e lines os → Session s e (requests_in shell lines) (request_responses lines os)
    × (end_environment e (request_responses lines os) ≡ end_environment e os)
    × (session_moves (request_responses lines os) ≡ session_moves os)
