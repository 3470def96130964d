-- What commands that load, unload and switch make of the environment, and why they are refused (module(1)).
use Rattle.std.specs.Prelude.{List, Result, Ok, string_bytes}
use Rattle.message.specs.Messages.{Text}
use Rattle.envvars.specs.Changes.{new_values_in}
use Rattle.envvars.specs.Environment.{Environment}
use Rattle.envvars.specs.Texts.{texts_in}
use Rattle.filetree.specs.Agreement.{Files, Listings, InEachPair}
use Rattle.filetree.specs.Relations.{Is, ◌>>◌}
use Rattle.shelltext.specs.Reading.{SaysDifference, TextSays}
use Rattle.shelltext.specs.declared.shell.Shell.{Shell}
use Rattle.requests.specs.Reasons.{RequestReason}
use Rattle.requests.specs.Requests.{request_of}
use Rattle.requests.specs.Steps.{Done, RequestStep}
use Rattle.modules.specs.Replies.{changed_env, changed_view}
use Rattle.module_auto.specs.Answers.{IsRequestFault, Outcomes}
use Rattle.module_restore.specs.Answers.{IsRestored}
use Rattle.module_subcommands.specs.Limits.{context}
use Rattle.module_subcommands.specs.declared.changing.Accepted.{Accepted}
use Rattle.module_subcommands.specs.declared.refusal.Refusal.{Refusal}
use Rattle.module_subcommands.specs.declared.refusal.Refusal.TheVariants as refusals
use Rattle.module_subcommands.specs.declared.requesting.Requested.{Requested}

-- what the request of these words comes to
abbrev pub RequestedStep : Shell → Environment → List Text → Files → Listings → Result Done RequestReason → Type 0
RequestedStep shell e words files listings =
    Is (request_of words) >> (λ action. RequestStep (context shell files listings) e action)

-- The request of these words is accepted: in each pair of maps that agrees its step comes to what is answered, and the
-- text says exactly the difference.
pub record IsRequested (agrees : Files → Listings → Type 0) (shell : Shell) (e : Environment) (words : List Text)
    (r : Requested) : Type 0 where
  pub comes : InEachPair agrees (λ files listings.
      RequestedStep shell e words files listings (Ok (changed_view e r.changed)))
  pub said : SaysDifference shell (string_bytes r.text) e (changed_env e r.changed)
  pub changes : TextSays shell (string_bytes r.text) (new_values_in r.changed.changes)

-- A step is accepted: in each pair of maps it comes to the same, of which the text says exactly the difference, and
-- these are the messages and the changes.
pub record IsAccepted (agrees : Files → Listings → Type 0) (shell : Shell) (e : Environment) (Comes : Outcomes)
    (a : Accepted) : Type 0 where
  pub comes : IsRestored agrees shell e Comes (string_bytes a.text) (texts_in a.messages)
  pub changes : TextSays shell (string_bytes a.text) (new_values_in a.changes)

-- Why a step is refused: memory is wanting, the device has failed, it is refused for this reason in each pair of maps
-- that agrees, or what it comes to has changes without a text in the shell.
abbrev pub IsRefusedChange : (Files → Listings → Type 0) → Type 0 → Shell → Environment → Outcomes → Refusal
    → Type 0
IsRefusedChange agrees failed shell e Comes refusals.OutOfMemory = Unit {0}
IsRefusedChange agrees failed shell e Comes (refusals.Requested fault) =
    IsRequestFault agrees failed shell e Comes fault
IsRefusedChange agrees failed shell e Comes (refusals.Restore fault) = IsRequestFault agrees failed shell e Comes fault
IsRefusedChange agrees failed shell e Comes other = ⊥
