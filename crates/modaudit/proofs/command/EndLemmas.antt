-- What a command does whose step accepts, and what it printed.
use Rattle.std.proofs.Common.{◌≡◌, ◌⊎◌, ◌<◌, inl, inr, Result, Ok, Err, string_bytes, refl, subst}
use Rattle.envvars.specs.Texts.{Text}
use Rattle.shelltext.specs.Reading.{SaysDifference}
use Rattle.shelltext.specs.declared.print.PrintFault.TheVariants as prints
use Rattle.filetree.specs.Agreement.{Files, Listings}
use Rattle.filetree.specs.Causes.{Cause, memory, device, because, Applies}
use Rattle.modules.specs.Answers.{cause_of}
use Rattle.requests.specs.Reasons.{RequestReason}
use Rattle.modulecmd.specs.declared.command_fault.CommandFault.{CommandFault}
use Rattle.modulecmd.specs.declared.command_fault.CommandFault.TheVariants.{Refused, Unprinted, UnknownShell, WriteFailed}
use Rattle.modulecmd.specs.Command.{CommandResult, CommandReason, unknown_shell, refused_for, CommandHasResult, IsCausedBy, OneCommand}
use Rattle.modulecmd.specs.Output.{standard_error_text, FinishesWriting, HasResultInEachPair, ResultLacksText}
use Rattle.modaudit.specs.command.Ends.{OnlyFailuresRefuse, AcceptedCommandsArePrinted}

applies_so : {R : Type 0} (cause : Cause R) (failed : Type 0) (Has Other : R → Type 0) → ((r : R) → Has r → Other r) → Applies cause failed Has → Applies cause failed Other
applies_so memory failed Has Other f h = h
applies_so device failed Has Other f h = h
applies_so (because r) failed Has Other f h = f r h

-- a cause, with what follows from a reason in its place
caused_so : (fault : CommandFault) (Has Other : CommandReason → Type 0) (Lacks : Text → Type 0) (failed : Type 0) → ((r : CommandReason) → Has r → Other r)
    → IsCausedBy fault Has Lacks failed → IsCausedBy fault Other Lacks failed
caused_so (Refused refusal) Has Other Lacks failed f h =
    applies_so (cause_of refusal) failed (λ (reason : RequestReason). Has (refused_for reason)) (λ (reason : RequestReason). Other (refused_for reason)) (λ reason k. f (refused_for reason) k) h
caused_so (UnknownShell word) Has Other Lacks failed f h = f (unknown_shell (string_bytes word)) h
caused_so (Unprinted prints.OutOfMemory) Has Other Lacks failed f h = h
caused_so (Unprinted (prints.NotSayable name)) Has Other Lacks failed f h = h
caused_so WriteFailed Has Other Lacks failed f h = h

pub only_failures_refuse : OneCommand → (agrees : Files → Listings → Type 0) → OnlyFailuresRefuse agrees
only_failures_refuse one agrees exit arguments e files listings effect before now out out' err err' there does (inl (f, text, (result, says, back), written)) =
    let q : Ok f ≡ Ok effect = one arguments e files listings (Ok f) (Ok effect) (result files listings there) does in
    let same : f ≡ effect = cc in
    inl (
      text,
      subst (λ (x : CommandResult). SaysDifference x.0 text e x.1.env) same says,
      subst (λ (x : CommandResult). FinishesWriting exit (standard_error_text x.1) text out out' err err') same written,
    )
only_failures_refuse one agrees exit arguments e files listings effect before now out out' err err' there does (inr (fault, (cause, numbered), refuses)) =
    inr (
      fault,
      caused_so fault (λ (reason : CommandReason). HasResultInEachPair agrees (CommandHasResult arguments e) (Err reason)) (λ (reason : CommandReason). ⊥)
          (ResultLacksText agrees e (CommandHasResult arguments e)) (before < now)
          (λ reason h. absurd (let q : Err reason ≡ Ok effect = one arguments e files listings (Err reason) (Ok effect) (h files listings there) does in cc)) cause,
      refuses,
    )

pub accepted_commands_are_printed : (agrees : Files → Listings → Type 0) → AcceptedCommandsArePrinted agrees
accepted_commands_are_printed agrees exit arguments e files listings out out' err err' there (f, text, (result, says, back), written) = record {
  command = record { arguments = arguments; effect = f; text = text };
  same = refl;
  makes = λ next made. (result files listings there, says, made);
  written = written;
}
