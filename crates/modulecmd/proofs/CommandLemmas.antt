-- The effect of a command, from its request and the step of that.
use Rattle.std.proofs.Common.{◌≡◌, ◌∙◌, ℕ, List, Result, Ok, Err, string_bytes, ap, subst, sym, refl}
use Rattle.envvars.specs.Texts.{Text}
use Rattle.envvars.specs.Environment.{Environment}
use Rattle.envvars.specs.Changes.{NewValue, AreChanges, new_values_in}
use Rattle.filetree.specs.Agreement.{Files, Listings, InEachPair}
use Rattle.shelltext.specs.declared.shell.Shell.{Shell}
use Rattle.shelltext.specs.Printing.{IsPrintFault, IsUnsayable}
use Rattle.shelltext.specs.Reading.{OneEffect, DifferenceMakes, TextSays, SaysDifference}
use Rattle.shelltext.specs.declared.print.PrintFault.{PrintFault}
use Rattle.shelltext.specs.declared.print.PrintFault.TheVariants as prints
use Rattle.reversal.specs.Laws.{Holds}
use Rattle.reversal.specs.Runs.{live_after, AreReversibleTogether}
use Rattle.filetree.specs.Relations.{After}
use Rattle.requests.specs.Laws.{CommandsReturn, OneOutcome}
use Rattle.requests.specs.Reasons.{RequestReason}
use Rattle.requests.specs.Requests.{RequestedAction, Request}
use Rattle.requests.specs.Steps.{RequestContext, Done, RequestStep, request_context_in}
use Rattle.filetree.specs.Causes.{Cause, memory, device, because, Applies}
use Rattle.modules.specs.Answers.{cause_of}
use Rattle.modules.specs.Messages.{memory_number, number_by}
use Rattle.modules.specs.Replies.{changed_env, changed_view}
use Rattle.modules.proofs.StepLemmas.{stands_as}
use Rattle.modulecmd.specs.declared.command_fault.CommandFault.{CommandFault}
use Rattle.modulecmd.specs.declared.command_fault.CommandFault.TheVariants.{Refused, Unprinted, UnknownShell}
use Rattle.modulecmd.specs.declared.command_fault.CommandFault.TheVariants.{WriteFailed}
use Rattle.modulecmd.specs.Command as command
use Rattle.modulecmd.specs.Command.{CommandReason, CommandResult, CommandHasResult, IsCausedBy, IsNumbered, command_of}
use Rattle.modulecmd.specs.Command.{standard, with_shell}
use Rattle.modulecmd.specs.declared.command.PreparedCommand.{PreparedCommand}
use Rattle.modulecmd.specs.Output.{IsPrepared, ReturnsToStart}
use Rattle.modulecmd.specs.Words.{effect_in}

pub does : (arguments : List Text) (e : Environment) (files : Files) (listings : Listings) (r : Request) (o : Result Done RequestReason)
    → command_of arguments ≡ Ok r → RequestStep (request_context_in standard r.0 files listings) e r.1 o → CommandHasResult arguments e files listings (with_shell r.0 o)
does arguments e files listings r o made step = (Ok r, sym made, (o, step, refl))

pub makes_none : (arguments : List Text) (e : Environment) (files : Files) (listings : Listings) (reason : CommandReason)
    → command_of arguments ≡ Err reason → CommandHasResult arguments e files listings (Err reason)
makes_none arguments e files listings reason made = (Err reason, sym made, refl)

-- the cause of a fault, where each reason gives another
pub caused_otherwise : (fault : CommandFault) (Is Is' : CommandReason → Type 0) (Lacks Lacks' : Text → Type 0) (failed failed' : Type 0)
    → ((r : CommandReason) → Is r → Is' r) → ((name : Text) → Lacks name → Lacks' name) → (failed → failed')
    → IsCausedBy fault Is Lacks failed → IsCausedBy fault Is' Lacks' failed'
caused_otherwise (Refused refusal) Is Is' Lacks Lacks' failed failed' more lacks fails h =
    stands_as (cause_of refusal) failed failed' (λ r. Is (command.refused_for r)) (λ r. Is' (command.refused_for r)) fails (λ r. more (command.refused_for r)) h
caused_otherwise (UnknownShell word) Is Is' Lacks Lacks' failed failed' more lacks fails h = more _ h
caused_otherwise (Unprinted prints.OutOfMemory) Is Is' Lacks Lacks' failed failed' more lacks fails h = tt
caused_otherwise (Unprinted (prints.NotSayable name)) Is Is' Lacks Lacks' failed failed' more lacks fails h = lacks _ h
caused_otherwise WriteFailed Is Is' Lacks Lacks' failed failed' more lacks fails h = absurd h

cause_numbered : (out_of_memory : ℕ) (c : Cause RequestReason) → Applies c (number_by out_of_memory c ≡ 43) (λ r. number_by out_of_memory c ≡ command.reason_number (command.refused_for r))
cause_numbered out_of_memory memory = tt
cause_numbered out_of_memory device = refl
cause_numbered out_of_memory (because r) = refl

-- a fault with a cause has the number of that
pub numbered : (fault : CommandFault) (Is : CommandReason → Type 0) (Lacks : Text → Type 0) (failed : Type 0) → IsCausedBy fault Is Lacks failed → IsNumbered fault
numbered (Refused refusal) Is Lacks failed h = cause_numbered (memory_number refusal) (cause_of refusal)
numbered (UnknownShell word) Is Lacks failed h = refl
numbered (Unprinted prints.OutOfMemory) Is Lacks failed h = tt
numbered (Unprinted (prints.NotSayable name)) Is Lacks failed h = refl
numbered WriteFailed Is Lacks failed h = absurd h

-- one outcome of the request is one of the command
taken_once : (r : Request) (x y : Result Done RequestReason) (o p : Result CommandResult CommandReason) → x ≡ y → o ≡ with_shell r.0 x → p ≡ with_shell r.0 y → o ≡ p
taken_once r x y o p same a b = a ∙ (ap (with_shell r.0) same ∙ sym b)

made_once : (e : Environment) (files : Files) (listings : Listings) (made : Result Request CommandReason) (o p : Result CommandResult CommandReason) → OneOutcome
    → After (λ r. command.RequestHasEffect r e files listings) made o → After (λ r. command.RequestHasEffect r e files listings) made p → o ≡ p
made_once e files listings (Ok r) o p one (x, h, a) (y, k, b) = taken_once r x y o p (one (request_context_in standard r.0 files listings) e r.1 x y h k) a b
made_once e files listings (Err reason) o p one a b = a ∙ sym b

pub does_once : OneOutcome → command.OneCommand
does_once one arguments e files listings o p (x, made, a) (y, made', b) =
    let After-of : Result Request CommandReason → Result CommandResult CommandReason → Type 0 = λ z q. After (λ r. command.RequestHasEffect r e files listings) z q in
    made_once e files listings (command_of arguments) o p one (subst (λ z. After-of z o) made a) (subst (λ z. After-of z p) made' b)

-- the text of a step returns to the start as the step does
pub returns_to_start : CommandsReturn → OneEffect → DifferenceMakes → (s : RequestContext) (e : Environment) (asked : RequestedAction) (f : CommandResult) (text : Text)
    → RequestStep s e asked (Ok f.1) → SaysDifference f.0 text e f.1.env → ReturnsToStart e f text
returns_to_start returns one makes s e asked f text step says =
    λ uses start new live is_start in_order start_with_live fit is_new fitting made.
    let P : Environment → Type 0 = λ x. Holds uses start (live_after live f.1.moves) x × AreReversibleTogether uses (live_after live f.1.moves) in
    subst P (one f.0 text e f.1.env new (makes f.0 text e f.1.env says) made)
    (returns uses s start e live asked f.1 is_start in_order start_with_live fit step is_new fitting)

-- the cause of a text that isn't there
pub unprinted : (shell : Shell) (ss : List NewValue) (fault : PrintFault) (Is : CommandReason → Type 0) (Lacks : Text → Type 0) (failed : Type 0)
    → ((name : Text) → IsUnsayable shell ss name → Lacks name) → IsPrintFault shell ss fault → IsCausedBy (Unprinted fault) Is Lacks failed
unprinted shell ss prints.OutOfMemory Is Lacks failed lacks h = tt
unprinted shell ss (prints.NotSayable name) Is Lacks failed lacks h = lacks (string_bytes name) h

-- A request's step and the text of its changes answer the command.
pub answers : CommandsReturn → OneEffect → DifferenceMakes → (agrees : Files → Listings → Type 0) (arguments : List Text) (e : Environment) (r : Request) (a : PreparedCommand)
    → command_of arguments ≡ Ok r → a.shell ≡ r.0
    → InEachPair agrees (λ files listings. RequestStep (request_context_in standard r.0 files listings) e r.1 (Ok (changed_view e a.changed)))
    → AreChanges e (changed_env e a.changed) (new_values_in a.changed.changes) → TextSays r.0 (string_bytes a.text) (new_values_in a.changed.changes)
    → IsPrepared agrees e (CommandHasResult arguments e) (effect_in e a) (string_bytes a.text)
answers returns one makes agrees arguments e r a made shell step exact says =
    let Read : Shell → Type 0 = λ s. TextSays s (string_bytes a.text) (new_values_in a.changed.changes) in
    let difference : SaysDifference a.shell (string_bytes a.text) e (changed_env e a.changed) = record
    { changes = new_values_in a.changed.changes; exact = exact; says = subst Read (sym shell) says } in
    let PrintsFor : Shell → Files → Listings → Type 0 = λ s files listings. CommandHasResult arguments e files listings (Ok (s, changed_view e a.changed)) in (
      λ files listings agreed. subst (λ s. PrintsFor s files listings) (sym shell) (does arguments e files listings r (Ok (changed_view e a.changed)) made (step files listings agreed)),
      difference,
      λ files listings agreed. returns_to_start returns one makes (request_context_in standard r.0 files listings) e r.1 (effect_in e a) (string_bytes a.text) (step files listings agreed) difference,
    )
