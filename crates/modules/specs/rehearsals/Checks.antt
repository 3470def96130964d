-- What the check of an input's lines answers (own).
use Rattle.std.specs.Prelude.{◌≡◌, ◌⊎◌, ℕ, ◌+◌, ◌<◌, ◌≤◌, Bool, true, false, List}
use Rattle.std.specs.List.{list_all}
use Rattle.envvars.specs.Texts.{Text}
use Rattle.envvars.specs.Environment.{Environment}
use Rattle.filetree.specs.Agreement.{Files, Listings, InEachPair}
use Rattle.shelltext.specs.declared.shell.Shell.{Shell}
use Rattle.shelltext.specs.declared.shell.Shell.TheVariants.{Sh}
use Rattle.tclrules.specs.declared.limits.Limits.{Limits}
use Rattle.requests.specs.Sessions.{Response, end_environment, in_shell}
use Rattle.requests.specs.Steps.{RequestContext, request_context_in}
use Rattle.modules.specs.Responses.{count_failed, responses}
use Rattle.modules.specs.declared.sessions.Outcome.{Outcome}
use Rattle.modules.specs.declared.sessions.Outcome.TheVariants.{Accepted, Refused}
use Rattle.modules.specs.rehearsals.Lines.{lines_in}
use Rattle.modules.specs.rehearsals.Sessions.{LineSession, LinesLookAt}
use Rattle.modules.specs.rehearsals.Judgments.{names_loaded, AreJudgments, NamesLookAt, count_failed_judgments}
use Rattle.modules.specs.declared.rehearsals.checking.CheckFindings.{CheckFindings}

-- the response to each line, one after another
abbrev pub responses_in : Environment → CheckFindings → List Response
responses_in e check = responses e check.outcomes.items

-- how many lines were refused, and modules not judged, because the device failed
abbrev pub failed_in : CheckFindings → ℕ
failed_in check = count_failed check.outcomes.items + count_failed_judgments check.judgments.items

-- The lines of the text are a session from this environment to the check's; the modules that it loaded are judged in
-- the first environment; and the device, which had failed so often before and has so often now, has failed since then
-- at least as often as the check has refusals by it.
pub record IsCheck (agrees : Files → Listings → Type 0) (before now : ℕ) (limits : Limits) (shell : Shell)
    (e : Environment) (text : Text) (check : CheckFindings) : Type 0 where
  pub session : InEachPair agrees (λ files listings.
      LineSession (request_context_in limits shell files listings) e (lines_in text) (responses_in e check))
  pub end : InEachPair agrees (λ files listings. check.env ≡ end_environment e (responses_in e check))
  pub judged : AreJudgments agrees (before < now) limits e (names_loaded (responses_in e check)) check.judgments.items
  pub failures : before + failed_in check ≤ now

-- A line of the check looks at this path, or the verdict on a module that its lines loaded does.
abbrev pub CheckLooksAt : RequestContext → Environment → List (List Text) → Text → Type 0
CheckLooksAt s e lines at =
    LinesLookAt s e lines at
    ⊎ ((os : List Response) × LineSession s e lines os × NamesLookAt (in_shell s Sh) e (names_loaded os) at)

-- the line was accepted
abbrev pub was_accepted : Outcome → Bool
was_accepted (Accepted done) = true
was_accepted (Refused refusal) = false

-- each line was accepted
abbrev pub all_accepted : CheckFindings → Bool
all_accepted check = list_all was_accepted check.outcomes.items
