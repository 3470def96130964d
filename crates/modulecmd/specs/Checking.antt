-- What the check of an input's lines writes to its two writers (own).
use Rattle.std.specs.Prelude.{◌≡◌, ◌⊎◌, ◌≤◌, ℕ, Bool, true, false, List, [], ◌∷◌, ◌++◌, length, Option, Some, None, Result}
use Rattle.std.specs.Prelude.{Ok, Err}
use Rattle.std.specs.Io.KnownBytes.{Keeps}
use Rattle.std.specs.Str.{is_utf8}
use Rattle.envvars.specs.Texts.{Text}
use Rattle.envvars.specs.Environment.{Environment}
use Rattle.filetree.specs.Agreement.{Files, Listings}
use Rattle.process.specs.declared.input.InputFault.{InputFault}
use Rattle.process.specs.Inputs.{ReadsAll, FailsAfterReading, input_limit}
use Rattle.requests.specs.Reasons.{bad_arguments}
use Rattle.requests.specs.Steps.{request_context_in}
use Rattle.shelltext.specs.declared.shell.Shell.{Shell}
use Rattle.shelltext.specs.Shells.{shell_named}
use Rattle.shelltext.specs.Reading.{SaysDifference}
use Rattle.modules.specs.rehearsals.Checks.{CheckLooksAt, IsCheck, all_accepted}
use Rattle.modules.specs.rehearsals.Lines.{lines_in}
use Rattle.modules.specs.rehearsals.Reports.{report_of}
use Rattle.modules.specs.declared.rehearsals.checking.CheckFindings.{CheckFindings}
use Rattle.modulecmd.specs.declared.checking.CheckExit.{CheckExit}
use Rattle.modulecmd.specs.declared.checking.CheckExit.TheVariants as exits
use Rattle.modulecmd.specs.declared.command_exit.Exit.{Exit}
use Rattle.modulecmd.specs.declared.command_exit.Exit.TheVariants.{Success, Reported, CutShort}
use Rattle.modulecmd.specs.declared.command_fault.CommandFault.{CommandFault}
use Rattle.modulecmd.specs.Command.{CommandReason, IsCausedBy, refused_for, of_input, standard, unknown_shell}
use Rattle.modulecmd.specs.NotUtf8 as not_utf8_lines
use Rattle.modulecmd.specs.Output.{FinishesWriting, Refuses}
use Rattle.shelltext.specs.Printing.{LacksText}

-- the shell that a word names
abbrev pub shell_or : Text → Option Shell → Result Shell CommandReason
shell_or word None = Err (unknown_shell word)
shell_or word (Some shell) = Ok shell

-- the shell that the one argument names
abbrev pub shell_of : List Text → Result Shell CommandReason
shell_of [] = Err (refused_for bad_arguments)
shell_of (word ∷ []) = shell_or word (shell_named word)
shell_of (word ∷ other ∷ more) = Err (refused_for bad_arguments)

-- The whole input, which is UTF-8 and no longer than an input may be, is checked for the shell of the arguments. The
-- numbers say how often the device had failed before, and has now.
pub record ChecksInput (agrees : Files → Listings → Type 0) (before now : ℕ) (e : Environment) (arguments : List Text)
    (input input' : Option Text) (shell : Shell) (found : CheckFindings) : Type 0 where
  pub named : shell_of arguments ≡ Ok shell
  pub text : Text
  pub given : ReadsAll input input' text
  pub within : length text ≤ input_limit
  pub readable : is_utf8 text ≡ true
  pub check : IsCheck agrees before now standard shell e text found

-- The check of all that the input gives looks at this path.
abbrev pub CheckOfInputLooksAt : List Text → Option Text → Option Text → Environment → Files → Listings → Text → Type 0
CheckOfInputLooksAt arguments input input' e files listings at =
    (shell : Shell) × (text : Text) × (shell_of arguments ≡ Ok shell) × ReadsAll input input' text
    × CheckLooksAt (request_context_in standard shell files listings) e (lines_in text) at

-- how the writing ended
abbrev pub writing_of : CheckExit → Exit
writing_of exits.AllAccepted = Success
writing_of exits.SomeRefused = Success
writing_of exits.Reported = Reported
writing_of exits.CutShort = CutShort

-- where all was written, the exit says whether each line was accepted
abbrev pub ShowsWhetherAccepted : CheckExit → Bool → Type 0
ShowsWhetherAccepted exits.AllAccepted accepted = accepted ≡ true
ShowsWhetherAccepted exits.SomeRefused accepted = accepted ≡ false
ShowsWhetherAccepted exits.Reported accepted = Unit {0}
ShowsWhetherAccepted exits.CutShort accepted = Unit {0}

-- What a check writes: on standard error its report, and behind it a line for each of the variables that aren't UTF-8; on
-- standard output a text that says for the shell exactly what its lines change from first to last; or the first part of
-- these before a failed write.
abbrev pub WritesCheck : CheckExit → Environment → List Text → Shell → CheckFindings → Option Text → Option Text
    → Option Text → Option Text → Type 0
WritesCheck exit e not_utf8 shell found out out' err err' =
    (text : Text) × SaysDifference shell text e found.env × ShowsWhetherAccepted exit (all_accepted found)
    × FinishesWriting (writing_of exit) (report_of found ++ not_utf8_lines.lines_of not_utf8) text out out' err err'

-- The arguments name no shell, and nothing is read.
abbrev pub IsUnnamed : List Text → Option Text → Option Text → CommandReason → Type 0
IsUnnamed arguments input input' reason = (shell_of arguments ≡ Err reason) × Keeps input input'

-- The arguments name a shell, and the input is spoilt.
abbrev pub IsUnread : List Text → Option Text → Option Text → CommandFault → Type 0
IsUnread arguments input input' fault =
    (shell : Shell) × (spoilt : InputFault) × (shell_of arguments ≡ Ok shell) × FailsAfterReading spoilt input input'
    × (fault ≡ of_input spoilt)

-- The check has changes for which the shell has no text.
abbrev pub CheckLacksText : (Files → Listings → Type 0) → ℕ → ℕ → Environment → List Text → Option Text → Option Text
    → Text → Type 0
CheckLacksText agrees before now e arguments input input' name =
    (shell : Shell) × (found : CheckFindings) × ChecksInput agrees before now e arguments input input' shell found
    × LacksText shell e found.env name

-- The cause of a fault: memory is wanting, the arguments name no shell, the input is spoilt, or the changes have no
-- text.
abbrev pub IsCheckFault : (Files → Listings → Type 0) → ℕ → ℕ → Environment → List Text → Option Text → Option Text
    → CommandFault → Type 0
IsCheckFault agrees before now e arguments input input' fault =
    IsCausedBy fault (IsUnnamed arguments input input') (CheckLacksText agrees before now e arguments input input') ⊥
    ⊎ IsUnread arguments input input' fault

-- What a check writes, by how it ended: what it found, or a fault and nothing else.
abbrev pub EndsCheck : CheckExit → (Files → Listings → Type 0) → ℕ → ℕ → Environment → List Text → List Text → Option Text
    → Option Text → Option Text → Option Text → Option Text → Option Text → Type 0
EndsCheck exit agrees before now e not_utf8 arguments input input' out out' err err' =
    ((shell : Shell) × (found : CheckFindings) × ChecksInput agrees before now e arguments input input' shell found
    × WritesCheck exit e not_utf8 shell found out out' err err')
    ⊎ ((fault : CommandFault) × IsCheckFault agrees before now e arguments input input' fault
    × Refuses (writing_of exit) fault out out' err err')

-- the status of the process
abbrev pub check_status : CheckExit → ℕ
check_status exits.AllAccepted = 0
check_status exits.SomeRefused = 1
check_status exits.Reported = 1
check_status exits.CutShort = 1
