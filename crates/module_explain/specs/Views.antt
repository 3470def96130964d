-- What the values of the code stand for, for the contracts of this crate's private functions (own).
use Rattle.std.specs.Prelude.{◌≡◌, Bool, true, false, is_none, List, Option, Some, None, IfSome, String}
use Rattle.std.specs.declared.alloc.Global.{Global}
use Rattle.std.specs.declared.vec.Vec.{Vec}
use Rattle.envvars.specs.Environment.{Environment}
use Rattle.envvars.specs.Texts.{Text, texts_in}
use Rattle.filetree.specs.Agreement.{Files, Listings}
use Rattle.filetree.specs.Causes.{Cause, memory, device, because}
use Rattle.envvars.specs.Changes.{NewValue}
use Rattle.shelltext.specs.Printing.{IsUnsayable}
use Rattle.shelltext.specs.Reading.{TextSays}
use Rattle.shelltext.specs.declared.shell.Shell.{Shell}
use Rattle.tclrules.specs.declared.limits.Limits.{Limits}
use Rattle.modulefile_run.specs.Running.{file_reason_of}
use Rattle.modules.specs.declared.refusal.Refusal.{Refusal}
use Rattle.modules.specs.declared.refusal.Refusal.TheVariants as refusals
use Rattle.module_explain.specs.declared.location.FileExplanation.{FileExplanation}
use Rattle.requests.specs.RequestViews.{action_view}
use Rattle.requests.specs.declared.action.Action.{Action}
use Rattle.module_explain.specs.Advised.{IsFirstSwitch, NoSwitch}
use Rattle.module_explain.specs.Locations.{IsLocated, IsNotLocated}
use Rattle.module_explain.specs.declared.advice.Advice.{Advice}
use Rattle.module_explain.specs.declared.advice.Advice.TheVariants as advices

-- where a cause is a reason, the fact holds of it
abbrev pub IfBecause : {R : Type 0} → Cause R → (R → Type 0) → Type 0
IfBecause memory P = Unit {0}
IfBecause device P = Unit {0}
IfBecause (because reason) P = P reason

-- a text of the shell says the changes; or none does, and the first that no line says has a name
abbrev pub IsSaid : Shell → List NewValue → Type 0
IsSaid shell changes = (text : Text) × TextSays shell text changes

abbrev pub IsNotSaid : Shell → List NewValue → Type 0
IsNotSaid shell changes = (name : Text) × IsUnsayable shell changes name

-- this action is to be tried
abbrev pub IsTried : Action → Advice → Type 0
IsTried action advice = advice ≡ advices.Try action

-- a switch to the first of the names for which it is accepted is to be tried; or none is accepted
module _ (agrees : Files → Listings → Type 0) (limits : Limits) (shell : Shell) (e : Environment) where
  abbrev pub IsSwitchOrNone : Text → List Text → Option Advice → Type 0
  IsSwitchOrNone other names None = NoSwitch agrees limits shell e other names
  IsSwitchOrNone other names (Some advice) =
      (action : Action) × IsTried action advice × IsFirstSwitch agrees limits shell e other names (action_view action)

-- what was asked for is to be tried with the option --auto, and does this
abbrev pub IsAutomated : List Text → Action → Advice → Type 0
IsAutomated asked action advice =
    (typed : Vec (String Global) Global) × (advice ≡ advices.TryAutomated typed action) × (texts_in typed ≡ asked)

-- What is said of the file of a refusal: of one for a file, where that failed, or nothing; of another nothing.
abbrev pub IsFileOf : (Files → Listings → Type 0) → Refusal → Option FileExplanation → Type 0
IsFileOf agrees (refusals.Run refused) None =
    (is_none (file_reason_of refused) ≡ false) × IfSome (file_reason_of refused) (IsNotLocated agrees)
IsFileOf agrees (refusals.Run refused) (Some x) =
    (is_none (file_reason_of refused) ≡ false)
    × IfSome (file_reason_of refused) (λ reason. IsLocated agrees reason x)
IsFileOf agrees refusal o = o ≡ None

-- it is a line, and no request
abbrev pub is_known : Advice → Bool
is_known (advices.Known line) = true
is_known advice = false
