-- What an explanation of a refused request promises (own): the file that it names is why, and what it advises would be
-- accepted.
use Rattle.std.specs.Prelude.{◌≡◌, ◌⊎◌, List, [], ◌∷◌, Option, Some, None, Ok, Err}
use Rattle.envvars.specs.Environment.{Environment}
use Rattle.envvars.specs.Texts.{Text}
use Rattle.filetree.specs.Agreement.{Files, Listings}
use Rattle.filetree.specs.Causes.{Cause, memory, device, because}
use Rattle.shelltext.specs.Reading.{SaysDifference}
use Rattle.shelltext.specs.declared.shell.Shell.{Shell}
use Rattle.tclrules.specs.declared.limits.Limits.{Limits}
use Rattle.modulefile.specs.Files.{FileReason}
use Rattle.requests.specs.Reasons.{RequestReason, bad_arguments, file_refused}
use Rattle.requests.specs.RequestViews.{action_view}
use Rattle.requests.specs.Requests.{RequestedAction, request_of}
use Rattle.requests.specs.Steps.{Done}
use Rattle.module_explain.specs.Advised.{ComesTo, IsAdvised, IsKnown}
use Rattle.module_explain.specs.Locations.{IsLocated, IsNotLocated}
use Rattle.module_explain.specs.Replacements.{usage_of}
use Rattle.module_explain.specs.declared.advice.Advice.{Advice}
use Rattle.module_explain.specs.declared.advice.Advice.TheVariants as advices
use Rattle.module_explain.specs.declared.explanation.Explanation.{Explanation}
use Rattle.module_explain.specs.declared.location.FileExplanation.{FileExplanation}

-- In each pair of maps that agrees the request is refused because a modulefile is, and what is said is of that one.
pub record IsWhy (agrees : Files → Listings → Type 0) (limits : Limits) (shell : Shell) (e : Environment)
    (action : RequestedAction) (x : FileExplanation) : Type 0 where
  pub reason : FileReason
  pub refused : ComesTo agrees limits shell e action (Err (file_refused reason))
  pub located : IsLocated agrees reason x

-- in each pair of maps that agrees the step of the request is done, and comes to the same
abbrev pub StepIsDone : (Files → Listings → Type 0) → Limits → Shell → Environment → RequestedAction → Type 0
StepIsDone agrees limits shell e action = (d : Done) × ComesTo agrees limits shell e action (Ok d)

-- a text of the shell says the difference
abbrev pub HasText : Shell → Environment → Environment → Type 0
HasText shell old new = (text : Text) × SaysDifference shell text old new

-- The request is accepted: its step is done, and a text of the shell says what that changes.
abbrev pub IsAccepted : (Files → Listings → Type 0) → Limits → Shell → Environment → RequestedAction → Type 0
IsAccepted agrees limits shell e action =
    (d : Done) × ComesTo agrees limits shell e action (Ok d) × HasText shell e d.env

-- What is advised would be accepted in the environment at hand.
abbrev pub IsSound : (Files → Listings → Type 0) → Limits → Shell → Environment → Advice → Type 0
IsSound agrees limits shell e (advices.Try action) = IsAccepted agrees limits shell e (action_view action)
IsSound agrees limits shell e (advices.TryAutomated asked action) =
    IsAccepted agrees limits shell e (action_view action)
IsSound agrees limits shell e (advices.Known line) = Unit {0}

-- The words don't fit the subcommand: how it is used.
abbrev pub IsUsage : List Text → Option Advice → Type 0
IsUsage [] o = o ≡ None
IsUsage (word ∷ others) o = IsKnown (usage_of word) o

abbrev pub IsOfUsage : List Text → Explanation → Type 0
IsOfUsage words x = (x.file ≡ None) × IsUsage words x.advice

-- The file that is said, where a request is refused because of one; no other reason has one.
abbrev pub IsFile : (Files → Listings → Type 0) → RequestReason → Option FileExplanation → Type 0
IsFile agrees (file_refused reason) None = IsNotLocated agrees reason
IsFile agrees (file_refused reason) (Some x) = IsLocated agrees reason x
IsFile agrees reason o = o ≡ None

-- What is said of a refusal: the file and the advice that the reason asks for.
abbrev pub IsOfReason : (Files → Listings → Type 0) → Limits → Shell → Environment → RequestedAction → RequestReason
    → Explanation → Type 0
IsOfReason agrees limits shell e action reason x =
    IsFile agrees reason x.file × IsAdvised agrees limits shell e action reason x.advice

-- the same of the cause of a refusal, if that is a reason
abbrev pub IsOfCause : (Files → Listings → Type 0) → Limits → Shell → Environment → RequestedAction
    → Cause RequestReason → Explanation → Type 0
IsOfCause agrees limits shell e action memory x = Unit {0}
IsOfCause agrees limits shell e action device x = Unit {0}
IsOfCause agrees limits shell e action (because reason) x = IsOfReason agrees limits shell e action reason x

-- Of a request whose step is done nothing is said; of one that is refused, what the reason asks for.
abbrev pub IsOfOutcome : (Files → Listings → Type 0) → Limits → Shell → Environment → RequestedAction → Explanation
    → Type 0
IsOfOutcome agrees limits shell e action x =
    (StepIsDone agrees limits shell e action × (x.file ≡ None) × (x.advice ≡ None))
    ⊎ ((reason : RequestReason) × ComesTo agrees limits shell e action (Err reason)
    × IsFile agrees reason x.file
    × IsAdvised agrees limits shell e action reason x.advice)

-- Why nothing is said: memory is wanting, the device failed in the call, or the words make no request, for another reason
-- than that they don't fit the subcommand.
abbrev pub IsUnexplained : Type 0 → List Text → Cause RequestReason → Type 0
IsUnexplained fails words memory = Unit {0}
IsUnexplained fails words device = fails
IsUnexplained fails words (because reason) = (request_of words ≡ Err reason) × (reason ≡ bad_arguments → ⊥)

-- What is said of the words of a request.
abbrev pub IsExplained : (Files → Listings → Type 0) → Limits → Shell → Environment → List Text → Explanation → Type 0
IsExplained agrees limits shell e words x =
    ((request_of words ≡ Err bad_arguments) × IsOfUsage words x)
    ⊎ ((action : RequestedAction) × (request_of words ≡ Ok action) × IsOfOutcome agrees limits shell e action x)
