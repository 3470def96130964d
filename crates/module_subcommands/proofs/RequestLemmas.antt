-- What the request of some words comes to.
use Rattle.std.proofs.Common.{◌≡◌, List, string_bytes, Result, Ok, Err, refl, sym, subst}
use Rattle.message.specs.Messages.{Text}
use Rattle.envvars.specs.Changes.{AreChanges, NewValue, new_values_in}
use Rattle.envvars.specs.Texts.{texts_in}
use Rattle.envvars.specs.Environment.{Environment}
use Rattle.filetree.specs.Agreement.{Files, Listings, InEachPair}
use Rattle.filetree.specs.Causes.{Applies}
use Rattle.shelltext.specs.Printing.{IsPrintFault}
use Rattle.shelltext.specs.Reading.{SaysDifference, TextSays}
use Rattle.shelltext.specs.declared.print.PrintFault.{PrintFault}
use Rattle.shelltext.specs.declared.print.PrintFault.TheVariants as prints
use Rattle.shelltext.specs.declared.shell.Shell.{Shell}
use Rattle.requests.specs.Reasons.{RequestReason}
use Rattle.requests.specs.Requests.{RequestedAction, request_of}
use Rattle.requests.specs.Steps.{Done, RequestStep}
use Rattle.modules.specs.Answers.{cause_of}
use Rattle.modules.specs.Replies.{changed_env, changed_view}
use Rattle.modules.specs.declared.refusal.Refusal.{Refusal}
use Rattle.modules.specs.declared.reply.RequestChanges.{RequestChanges}
use Rattle.modules.proofs.StepLemmas.{stands_as}
use Rattle.module_auto.specs.Answers.{IsRequestFault, Outcomes}
use Rattle.module_auto.specs.declared.fault.RequestFault.TheVariants.{Refused, Unprinted}
use Rattle.module_subcommands.specs.Changes.{IsAccepted, IsRequested, RequestedStep}
use Rattle.module_subcommands.specs.declared.changing.Accepted.{Accepted}
use Rattle.module_subcommands.specs.declared.requesting.Requested.{Requested}
use Rattle.module_subcommands.specs.Limits.{context}

-- changes that have no text
pub unprinted : (agrees : Files → Listings → Type 0) (failed : Type 0) (shell : Shell) (e : Environment) (Comes : Outcomes) (changed : RequestChanges) (fault : PrintFault)
    → InEachPair agrees (λ files listings. Comes files listings (Ok (changed_view e changed))) → AreChanges e (changed_env e changed) (new_values_in changed.changes)
    → IsPrintFault shell (new_values_in changed.changes) fault → IsRequestFault agrees failed shell e Comes (Unprinted fault)
unprinted agrees failed shell e Comes changed prints.OutOfMemory step exact h = tt
unprinted agrees failed shell e Comes changed (prints.NotSayable name) step exact h = (changed_view e changed, step, (new_values_in changed.changes, exact, h))

-- words that make no request
pub no_request : (agrees : Files → Listings → Type 0) (failed : Type 0) (shell : Shell) (e : Environment) (words : List Text) (refusal : Refusal)
    → Applies (cause_of refusal) ⊥ (λ r. Err r ≡ request_of words) → IsRequestFault agrees failed shell e (RequestedStep shell e words) (Refused refusal)
no_request agrees failed shell e words refusal h =
    stands_as (cause_of refusal) ⊥ failed (λ r. Err r ≡ request_of words) (λ r. InEachPair agrees (λ files listings. RequestedStep shell e words files listings (Err r)))
    (λ q. absurd q) (λ r k files listings a. (Err r, k, refl)) h

-- the request of the words
pub of_request : (shell : Shell) (e : Environment) (words : List Text) (action : RequestedAction) → Ok action ≡ request_of words → (files : Files) (listings : Listings) (o : Result Done RequestReason)
    → RequestStep (context shell files listings) e action o → RequestedStep shell e words files listings o
of_request shell e words action same files listings o step = (Ok action, same, step)

-- an accepted request, as it is answered
pub accepted_by : (agrees : Files → Listings → Type 0) (shell : Shell) (e : Environment) (words : List Text) (r : Requested) (a : Accepted)
    → texts_in a.messages ≡ texts_in r.changed.done.messages → string_bytes a.text ≡ string_bytes r.text → new_values_in a.changes ≡ new_values_in r.changed.changes
    → IsRequested agrees shell e words r → IsAccepted agrees shell e (RequestedStep shell e words) a
accepted_by agrees shell e words r a messages text changes h = record {
  comes = (changed_view e r.changed, h.comes, subst (λ (t : Text). SaysDifference shell t e (changed_env e r.changed)) (sym text) h.said, messages);
  changes = subst (λ (t : Text). TextSays shell t (new_values_in a.changes)) (sym text) (subst (λ (l : List NewValue). TextSays shell (string_bytes r.text) l) (sym changes) h.changes);
}
