-- Rehearsals (own): a session with the text that each accepted request prints.
use Rattle.std.specs.Prelude.{ℕ, ◌≡◌, ◌≤◌, ◌+◌, ◌==◌, List, [], ◌∷◌, Option, Some, None, take, if◌then◌else◌, Ok}
use Rattle.envvars.specs.Texts.{Text}
use Rattle.envvars.specs.Environment.{Environment}
use Rattle.shelltext.specs.Reading.{SaysDifference}
use Rattle.shelltext.specs.Printing.{LacksText}
use Rattle.shelltext.specs.Sequences.{ShellRun, TextsMake}
use Rattle.requests.specs.Requests.{Request}
use Rattle.requests.specs.Steps.{RequestContext, Done, RequestStep}
use Rattle.requests.specs.Sessions.{Response, accepted, refused, given_up, Session, env_after, end_environment}
use Rattle.requests.specs.Sessions.{in_shell, session_moves}
use Rattle.requests.specs.Returning.{AreNew, AreReversibleBeside}
use Rattle.reversal.specs.VariableUses.{VariableUse}
use Rattle.reversal.specs.Starts.{IsStart}
use Rattle.reversal.specs.Runs.{live_after}

-- the step has changes for which the shell has no text
abbrev pub StepLacksText : RequestContext → Environment → Request → Type 0
StepLacksText s e r =
    (d : Done) × (name : Text) × RequestStep (in_shell s r.0) e r.1 (Ok d) × LacksText r.0 e d.env name

-- what is printed for a request with this response: for an accepted one a text that says the difference between the
-- environment before it and the one after it, for another none; one that is given up by 62 has changes without a text
abbrev pub IsPrint : RequestContext → Environment → Request → Response → Option Text → Type 0
IsPrint s e r (accepted d) (Some text) = SaysDifference r.0 text e d.env
IsPrint s e r (accepted d) None = ⊥
IsPrint s e r (refused reason) print = print ≡ None
IsPrint s e r (given_up number) print = (print ≡ None) × (number ≡ 62 → StepLacksText s e r)

-- for each request what is printed, in the environment after those before it
abbrev pub ArePrints : RequestContext → Environment → List Request → List Response → List (Option Text) → Type 0
ArePrints s e [] [] [] = Unit {0}
ArePrints s e [] [] (p ∷ ps) = ⊥
ArePrints s e [] (o ∷ os) ps = ⊥
ArePrints s e (r ∷ rs) [] ps = ⊥
ArePrints s e (r ∷ rs) (o ∷ os) [] = ⊥
ArePrints s e (r ∷ rs) (o ∷ os) (p ∷ ps) = IsPrint s e r o p × ArePrints s (env_after e o) rs os ps

-- The requests were rehearsed: they are a session in which exactly those with a text are accepted, and this environment
-- results.
pub record Rehearsed (s : RequestContext) (e : Environment) (rs : List Request) (ps : List (Option Text))
    (end : Environment)
    : Type 0 where
  pub responses : List Response
  pub session : Session s e rs responses
  pub prints : ArePrints s e rs responses ps
  pub leaves : end ≡ end_environment e responses

-- one for a request that was given up because a device failed
abbrev pub one_failed : Response → ℕ
one_failed (accepted d) = 0
one_failed (refused reason) = 0
one_failed (given_up number) = if number == 43 then 1 else 0

-- how many requests were given up because a device failed
abbrev pub count_failed : List Response → ℕ
count_failed [] = 0
count_failed (o ∷ os) = one_failed o + count_failed os

-- So many device failures were counted before the requests and after them, and at least one for each request that was
-- given up for one.
pub record Rehearsal (s : RequestContext) (e : Environment) (rs : List Request) (ps : List (Option Text))
    (end : Environment)
    (before after : ℕ) : Type 0 where
  pub rehearsed : Rehearsed s e rs ps end
  pub failures : before + count_failed rehearsed.responses ≤ after

-- the texts that were printed, each with the shell of its request
abbrev pub runs_of : List Request → List (Option Text) → List ShellRun
runs_of [] ps = []
runs_of (r ∷ rs) [] = []
runs_of (r ∷ rs) (None ∷ ps) = runs_of rs ps
runs_of (r ∷ rs) (Some text ∷ ps) = (r.0, text) ∷ runs_of rs ps

-- After each number of requests, shells that ran the texts so far, one after the other, hold the environment that the
-- session has there.
abbrev pub MakesSession : RequestContext → Environment → List Request → List (Option Text) → Environment → Type 0
MakesSession s e rs ps end =
    (h : Rehearsed s e rs ps end) → (n : ℕ)
    → TextsMake (runs_of (take n rs) (take n ps)) e (end_environment e (take n h.responses))

-- Of a session of new modules that are reversible and apart, from a start in order, that ends with no live module:
-- shells that ran all texts hold the start.
abbrev pub TextsReturnToStart : RequestContext → Environment → List Request → List (Option Text) → Environment → Type 0
TextsReturnToStart s start rs ps end =
    (uses : Text → VariableUse) → (h : Rehearsed s start rs ps end)
    → IsStart uses start → AreNew start (session_moves h.responses)
    → AreReversibleBeside uses [] (session_moves h.responses)
    → live_after [] (session_moves h.responses) ≡ []
    → TextsMake (runs_of rs ps) start start
