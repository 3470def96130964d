-- How `modulecmd` ends a command whose step accepts, and what it then printed (own).
use Rattle.std.specs.Prelude.{◌≡◌, ◌⊎◌, ℕ, ◌<◌, List, Option, Ok}
use Rattle.envvars.specs.Texts.{Text}
use Rattle.envvars.specs.Environment.{Environment}
use Rattle.shelltext.specs.Reading.{TextMakes, SaysDifference}
use Rattle.filetree.specs.Agreement.{Files, Listings}
use Rattle.modulecmd.specs.declared.command_fault.CommandFault.{CommandFault}
use Rattle.modulecmd.specs.declared.command_exit.Exit.{Exit}
use Rattle.modulecmd.specs.Command.{CommandResult, CommandHasResult, IsCausedBy}
use Rattle.modulecmd.specs.Output.{standard_error_text, FinishesWriting, Accepts, Refuses, ResultLacksText, EndsCommand}
use Rattle.modulecmd.specs.Runs.{PrintedCommand, CommandMakes}

-- The fault has no reason in the request: memory is wanting, the device has failed, or a change has no text in the shell.
abbrev pub IsFailure : (Files → Listings → Type 0) → Type 0 → List Text → Environment → CommandFault → Type 0
IsFailure agrees failed arguments e fault =
    IsCausedBy fault (λ reason. ⊥) (ResultLacksText agrees e (CommandHasResult arguments e)) failed

-- The command is accepted, and a shell reads from its text exactly this effect; a write may still fail. Or a failure
-- refuses it.
abbrev pub EndsAccepted : Exit → (Files → Listings → Type 0) → Type 0 → List Text → Environment → CommandResult
    → Option Text → Option Text → Option Text → Option Text → Type 0
EndsAccepted exit agrees failed arguments e effect out out' err err' =
    ((text : Text) × SaysDifference effect.0 text e effect.1.env
    × FinishesWriting exit (standard_error_text effect.1) text out out' err err')
    ⊎ ((fault : CommandFault) × IsFailure agrees failed arguments e fault × Refuses exit fault out out' err err')

-- If the step of a command accepts over some files and directories, `modulecmd` ends so over each tree that these agree
-- with. The numbers are those of the device's failures before and after.
abbrev pub OnlyFailuresRefuse : (Files → Listings → Type 0) → Type 0
OnlyFailuresRefuse agrees =
    (exit : Exit) (arguments : List Text) (e : Environment) (files : Files) (listings : Listings)
    (effect : CommandResult) (before now : ℕ) (out out' err err' : Option Text)
    → agrees files listings → CommandHasResult arguments e files listings (Ok effect)
    → EndsCommand exit agrees (before < now) e (CommandHasResult arguments e) out out' err err'
    → EndsAccepted exit agrees (before < now) arguments e effect out out' err err'

-- What an accepted command of `modulecmd` did and printed over a tree is a command of sessions, over all files and
-- directories that agree with the tree: a shell that runs the text makes of the environment what that command makes.
pub record IsPrintedBy (exit : Exit) (arguments : List Text) (e : Environment) (files : Files) (listings : Listings)
    (out out' err err' : Option Text) : Type 0 where
  pub command : PrintedCommand
  pub same : command.arguments ≡ arguments
  pub makes : (next : Environment) → TextMakes command.effect.0 command.text e next
      → CommandMakes files listings command e next
  pub written : FinishesWriting exit (standard_error_text command.effect.1) command.text out out' err err'

abbrev pub AcceptedCommandsArePrinted : (Files → Listings → Type 0) → Type 0
AcceptedCommandsArePrinted agrees =
    (exit : Exit) (arguments : List Text) (e : Environment) (files : Files) (listings : Listings)
    (out out' err err' : Option Text)
    → agrees files listings → Accepts exit agrees e (CommandHasResult arguments e) out out' err err'
    → IsPrintedBy exit arguments e files listings out out' err err'
