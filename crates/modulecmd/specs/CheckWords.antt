-- What a check is to write, for the contracts of this crate's private functions.
use Rattle.std.specs.Prelude.{◌≡◌, ℕ, Bool, true, false, List, ◌++◌, Option, string_bytes}
use Rattle.envvars.specs.Texts.{Text}
use Rattle.envvars.specs.Environment.{Environment}
use Rattle.filetree.specs.Agreement.{Files, Listings}
use Rattle.shelltext.specs.declared.shell.Shell.{Shell}
use Rattle.shelltext.specs.Reading.{SaysDifference}
use Rattle.modules.specs.rehearsals.Checks.{all_accepted}
use Rattle.modules.specs.rehearsals.Reports.{report_of}
use Rattle.modules.specs.declared.rehearsals.checking.CheckFindings.{CheckFindings}
use Rattle.modulecmd.specs.Checking.{ChecksInput}
use Rattle.modulecmd.specs.NotUtf8.{lines_of}
use Rattle.modulecmd.specs.declared.command_exit.Exit.{Exit}
use Rattle.modulecmd.specs.declared.command_exit.Exit.TheVariants.{Success, Reported, CutShort}
use Rattle.modulecmd.specs.declared.checking.CheckExit.{CheckExit}
use Rattle.modulecmd.specs.declared.checking.CheckExit.TheVariants as exits
use Rattle.modulecmd.specs.declared.checking.PreparedCheck.{PreparedCheck}

-- the answer has what is to be written of a check of all that the input gives
pub record IsPreparedCheck (agrees : Files → Listings → Type 0) (before now : ℕ) (e : Environment)
    (not_utf8 arguments : List Text) (input input' : Option Text) (answer : PreparedCheck) : Type 0 where
  pub shell : Shell
  pub found : CheckFindings
  pub checks : ChecksInput agrees before now e arguments input input' shell found
  pub says : SaysDifference shell (string_bytes answer.text) e found.env
  pub report : string_bytes answer.report ≡ report_of found ++ lines_of not_utf8
  pub accepted : answer.is_accepted ≡ all_accepted found

-- how a check ended whose texts are written
abbrev pub written : Bool → CheckExit
written true = exits.AllAccepted
written false = exits.SomeRefused

-- how a check ended, by how its writing ended
abbrev pub exit_of : Exit → Bool → CheckExit
exit_of Success accepted = written accepted
exit_of Reported accepted = exits.Reported
exit_of CutShort accepted = exits.CutShort
