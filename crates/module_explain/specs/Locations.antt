-- Where the modulefile failed that a request is refused for (own).
use Rattle.std.specs.Prelude.{◌≡◌, ◌⊎◌, None, Some, Ok, Err, string_bytes}
use Rattle.envvars.specs.Texts.{Text, texts_in}
use Rattle.filetree.specs.Agreement.{Files, Listings, InEachPair}
use Rattle.filetree.specs.Modulefiles.{modulefile}
use Rattle.tclrules.specs.declared.outcome.FaultPlace.{FaultPlace}
use Rattle.modulefile.specs.Files.{FileReason}
use Rattle.requests.specs.Reasons.{RequestReason}
use Rattle.requests.specs.Steps.{script_at}
use Rattle.module_explain.specs.Commands.{command_at}
use Rattle.module_explain.specs.declared.location.FileExplanation.{FileExplanation}

-- The script at the path, in each pair of maps that agrees.
abbrev pub IsThere : (Files → Listings → Type 0) → (path text : Text) → Type 0
IsThere agrees path text = InEachPair agrees (λ files listings. Ok text ≡ script_at path (modulefile (files path)))

-- No script is at the path, for a reason.
abbrev pub IsNoScript : (Files → Listings → Type 0) → Text → Type 0
IsNoScript agrees path =
    (reason : RequestReason)
    × InEachPair agrees (λ files listings. Err reason ≡ script_at path (modulefile (files path)))

-- What is said is of the file that is refused for this reason: its module and path, the command at which its evaluation
-- ended, with the line in which that begins, and what it had said.
pub record IsLocated (agrees : Files → Listings → Type 0) (reason : FileReason) (x : FileExplanation) : Type 0 where
  pub module_named : string_bytes x.module ≡ reason.name
  pub path_named : string_bytes x.path ≡ reason.path
  pub place : FaultPlace
  pub ended : reason.place ≡ Some place
  pub text : Text
  pub there : IsThere agrees reason.path text
  pub line_counted : x.line ≡ place.line
  pub command_shown : string_bytes x.command ≡ command_at text place.innermost
  pub said_before : texts_in x.messages ≡ reason.messages

-- Nothing is said of the file that is refused for this reason: no command of it had begun, or no script is there.
abbrev pub IsNotLocated : (Files → Listings → Type 0) → FileReason → Type 0
IsNotLocated agrees reason = (reason.place ≡ None) ⊎ IsNoScript agrees reason.path
