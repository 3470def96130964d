-- What a command line asks for and what that makes of an environment, over the files and directories of a tree
-- (module(1)).
use Rattle.std.specs.Prelude.{◌≡◌, ℕ, List, [], ◌∷◌, Option, Some, None, Result, Ok, Err, string_bytes}
use Rattle.message.specs.Refusals as table
use Rattle.message.specs.declared.refusals.RefusalKind.TheVariants as kinds
use Rattle.envvars.specs.Texts.{Text}
use Rattle.envvars.specs.Environment.{Environment}
use Rattle.filetree.specs.Agreement.{Files, Listings}
use Rattle.filetree.specs.Relations.{Is, ◌>>◌}
use Rattle.shelltext.specs.declared.shell.Shell.{Shell}
use Rattle.shelltext.specs.Shells.{shell_named}
use Rattle.shelltext.specs.declared.print.PrintFault.TheVariants as prints
use Rattle.shelltext.specs.Printing as printing
use Rattle.tclrules.specs.declared.limits.Limits.{Limits}
use Rattle.requests.specs.Looked.{RequestLooksAt}
use Rattle.requests.specs.Reasons as requests
use Rattle.requests.specs.Reasons.{RequestReason, bad_arguments}
use Rattle.requests.specs.Requests.{RequestedAction, Request, request_of}
use Rattle.requests.specs.Steps.{Done, RequestStep, request_context_in}
use Rattle.filetree.specs.Causes.{Applies}
use Rattle.modules.specs.Answers.{cause_of, refused_read}
use Rattle.modules.specs.Messages as texts
use Rattle.modules.specs.declared.refusal.Refusal.TheVariants as refusals
use Rattle.filetree.specs.declared.tree.TreeFault.TheVariants as trees
use Rattle.process.specs.declared.input.InputFault.{InputFault}
use Rattle.process.specs.declared.input.InputFault.TheVariants as inputs
use Rattle.modulecmd.specs.declared.command_fault.CommandFault.{CommandFault}
use Rattle.modulecmd.specs.declared.command_fault.CommandFault.TheVariants.{Refused, Unprinted, UnknownShell}
use Rattle.modulecmd.specs.declared.command_fault.CommandFault.TheVariants.{WriteFailed}

-- Why a command is refused, apart from want of memory, a failed device, a failed write and changes without a text.
pub data CommandReason : Type 0 where
  unknown_shell : (word : Text) → CommandReason
  refused_for : (reason : RequestReason) → CommandReason

-- the request for this shell, or the reason why the words make none
abbrev pub for_shell : Shell → Result RequestedAction RequestReason → Result Request CommandReason
for_shell shell (Ok asked) = Ok (shell, asked)
for_shell shell (Err reason) = Err (refused_for reason)

-- the request of these words, for the shell that the word names
abbrev pub by_shell : Text → List Text → Option Shell → Result Request CommandReason
by_shell word words None = Err (unknown_shell word)
by_shell word words (Some shell) = for_shell shell (request_of words)

-- the request that the arguments make: the name of the shell that is to read the text, and then the words of the
-- request
abbrev pub command_of : List Text → Result Request CommandReason
command_of [] = Err (refused_for bad_arguments)
command_of (word ∷ words) = by_shell word words (shell_named word)

-- what every command may use: 100,000 commands in a modulefile, evaluations nested 200 deep, 1,048,576 bytes in a value
abbrev pub standard : Limits
standard = record { commands = 100000; depth = 200; value_bytes = 1048576 }

-- what an accepted command does: the shell that reads its text, and what its request has done
abbrev pub CommandResult : Type 0
CommandResult = Shell × Done

-- what the step has done, with the shell that reads the text
abbrev pub with_shell : Shell → Result Done RequestReason → Result CommandResult CommandReason
with_shell shell (Ok done) = Ok (shell, done)
with_shell shell (Err reason) = Err (refused_for reason)

-- the effect of a request, or its reason: by its step under the standard limits
abbrev pub RequestHasEffect : Request → Environment → Files → Listings → Result CommandResult CommandReason → Type 0
RequestHasEffect r e files listings o =
    (step : Result Done RequestReason) × RequestStep (request_context_in standard r.0 files listings) e r.1 step
    × (o ≡ with_shell r.0 step)

-- The effect of a command with these arguments, or its reason, in this environment and over these files and
-- directories.
abbrev pub CommandHasResult : List Text → Environment → Files → Listings → Result CommandResult CommandReason → Type 0
CommandHasResult arguments e files listings = Is (command_of arguments) >> (λ r. RequestHasEffect r e files listings)

-- The request of these arguments looks at this path.
abbrev pub CommandLooksAt : List Text → Environment → Files → Listings → Text → Type 0
CommandLooksAt arguments e files listings at =
    (r : Request) × (command_of arguments ≡ Ok r)
    × RequestLooksAt (request_context_in standard r.0 files listings) e r.1 at

-- The cause of a refusal: memory is wanting, a device has failed, the changes have no text, or the command has a
-- reason.
abbrev pub IsCausedBy : CommandFault → (CommandReason → Type 0) → (Text → Type 0) → Type 0 → Type 0
IsCausedBy (Refused refusal) Has Lacks failed = Applies (cause_of refusal) failed (λ reason. Has (refused_for reason))
IsCausedBy (UnknownShell word) Has Lacks failed = Has (unknown_shell (string_bytes word))
IsCausedBy (Unprinted prints.OutOfMemory) Has Lacks failed = Unit {0}
IsCausedBy (Unprinted (prints.NotSayable name)) Has Lacks failed = Lacks (string_bytes name)
IsCausedBy WriteFailed Has Lacks failed = ⊥

-- the number of each refusal
abbrev pub number_of : CommandFault → ℕ
number_of (Refused refusal) = texts.number_of refusal
number_of (Unprinted fault) = (printing.refusal_of fault).number
number_of (UnknownShell word) = table.number_of kinds.UnknownShell
number_of WriteFailed = table.number_of kinds.WriteFailed

-- the number of a command's reason
abbrev pub reason_number : CommandReason → ℕ
reason_number (unknown_shell word) = table.number_of kinds.UnknownShell
reason_number (refused_for reason) = requests.reason_number reason

-- the number of a refusal is that of its cause: the reason's own, 62 for changes without a text, 43 for a failed device
abbrev pub IsNumbered : CommandFault → Type 0
IsNumbered fault =
    IsCausedBy fault (λ reason. number_of fault ≡ reason_number reason)
    (λ name. number_of fault ≡ table.number_of kinds.NotSayable) (number_of fault ≡ table.number_of kinds.Device)

-- arguments that can't be handed on, and an input that isn't read whole or isn't text, as a refusal
abbrev pub of_input : InputFault → CommandFault
of_input inputs.OutOfMemory = Refused refusals.OutOfMemory
of_input inputs.ReadFailed = Refused (refused_read trees.Device)
of_input inputs.BadInput = Refused refusals.BadArguments

-- A command has one effect at most, or one reason.
abbrev pub OneCommand : Type 0
OneCommand =
    (arguments : List Text) (e : Environment) (files : Files) (listings : Listings)
    (o p : Result CommandResult CommandReason)
    → CommandHasResult arguments e files listings o → CommandHasResult arguments e files listings p → o ≡ p
