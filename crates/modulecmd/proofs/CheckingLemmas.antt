-- How a check ended, and the causes of its faults.
use Rattle.std.proofs.Common.{◌≡◌, ℕ, List, [], ◌++◌, Bool, true, false, Ok, Option, String, string_bytes, refl, sym, subst}
use Rattle.std.proofs.Common.{inl, inr}
use Rattle.std.proofs.lemmas.Str.{IsUtf8-string_bytes, is_utf8-from_IsUtf8}
use Rattle.std.specs.declared.alloc.Global.{Global}
use Rattle.std.specs.Str.{is_utf8}
use Rattle.envvars.specs.Texts.{Text}
use Rattle.envvars.specs.Environment.{Environment}
use Rattle.filetree.specs.Agreement.{FailsOnlyWhere, Files, InEachPair, Listings}
use Rattle.filetree.proofs.FailedPaths.{only_wider_in_each}
use Rattle.process.specs.Inputs.{ReadsAll}
use Rattle.requests.specs.Steps.{request_context_in}
use Rattle.modules.specs.rehearsals.Checks.{CheckLooksAt}
use Rattle.modules.specs.rehearsals.Lines.{lines_in}
use Rattle.modules.specs.rehearsals.Reports.{report_of}
use Rattle.modulecmd.specs.declared.checking.PreparedCheck.{PreparedCheck}
use Rattle.modulecmd.specs.declared.command_exit.Exit.{Exit}
use Rattle.modulecmd.specs.declared.command_exit.Exit.TheVariants.{Success, Reported, CutShort}
use Rattle.modulecmd.specs.declared.command_fault.CommandFault.{CommandFault}
use Rattle.shelltext.specs.declared.shell.Shell.{Shell}
use Rattle.modulecmd.specs.Checking.{CheckOfInputLooksAt, EndsCheck, IsCheckFault, ShowsWhetherAccepted, shell_of}
use Rattle.modulecmd.specs.Checking.{writing_of}
use Rattle.modulecmd.specs.Command.{standard}
use Rattle.modulecmd.specs.CheckWords.{IsPreparedCheck, exit_of}
use Rattle.modulecmd.specs.NotUtf8.{lines_of}
use Rattle.modulecmd.specs.Output.{FinishesWriting, WritesFault}
use Rattle.modulecmd.proofs.WriterLemmas.{keeps_same}

-- what a string holds is UTF-8
pub readable : (s : String Global) → is_utf8 (string_bytes s) ≡ true
readable s = is_utf8-from_IsUtf8 (string_bytes s) (IsUtf8-string_bytes s)

writes_so : (exit : Exit) (accepted : Bool) → writing_of (exit_of exit accepted) ≡ exit
writes_so Success true = refl
writes_so Success false = refl
writes_so Reported accepted = refl
writes_so CutShort accepted = refl

exit_shows : (exit : Exit) (accepted : Bool) → ShowsWhetherAccepted (exit_of exit accepted) accepted
exit_shows Success true = refl
exit_shows Success false = refl
exit_shows Reported accepted = tt
exit_shows CutShort accepted = tt

-- an answer that was written, or the first part of it before a failed write
pub checked : (exit : Exit) (agrees : Files → Listings → Type 0) (before now : ℕ) (e : Environment) (not_utf8 arguments : List Text) (input input' out out' err err' : Option Text) (a : PreparedCheck)
    → IsPreparedCheck agrees before now e not_utf8 arguments input input' a → FinishesWriting exit (string_bytes a.report) (string_bytes a.text) out out' err err'
    → EndsCheck (exit_of exit a.is_accepted) agrees before now e not_utf8 arguments input input' out out' err err'
checked exit agrees before now e not_utf8 arguments input input' out out' err err' a is h =
    let end = exit_of exit a.is_accepted in
    let Writes : Exit → Text → Type 0 = λ x report. FinishesWriting x report (string_bytes a.text) out out' err err' in
    let Whether : Bool → Type 0 = λ b. ShowsWhetherAccepted end b in
    inl (
      is.shell,
      is.found,
      is.checks,
      (
        string_bytes a.text,
        is.says,
        subst Whether is.accepted (exit_shows exit a.is_accepted),
        subst (λ x. Writes x (report_of is.found ++ lines_of not_utf8)) (sym (writes_so exit a.is_accepted)) (subst (λ report. Writes exit report) is.report h),
      ),
    )

-- a fault that was reported
pub refused : (exit : Exit) (agrees : Files → Listings → Type 0) (before now : ℕ) (e : Environment) (not_utf8 arguments : List Text) (input input' out err err' : Option Text) (fault : CommandFault)
    → IsCheckFault agrees before now e arguments input input' fault → WritesFault exit err err' [] fault
    → EndsCheck (exit_of exit false) agrees before now e not_utf8 arguments input input' out out err err'
refused exit agrees before now e not_utf8 arguments input input' out err err' fault is h =
    let Tells : Exit → Type 0 = λ x. WritesFault x err err' [] fault in
    inr (fault, is, (keeps_same out, subst Tells (sym (writes_so exit false)) h))

-- where the device has failed: the check of all that the input gives looks there
pub input_fails : (agrees : Files → Listings → Type 0) (before now : List ℕ → Bool) (e : Environment) (arguments : List Text) (input input' : Option Text) (shell : Shell) (text : Text)
    → shell_of arguments ≡ Ok shell → ReadsAll input input' text
    → FailsOnlyWhere before now (λ at. InEachPair agrees (λ files listings. CheckLooksAt (request_context_in standard shell files listings) e (lines_in text) at))
    → FailsOnlyWhere before now (λ at. InEachPair agrees (λ files listings. CheckOfInputLooksAt arguments input input' e files listings at))
input_fails agrees before now e arguments input input' shell text named given =
    let Here : Files → Listings → Text → Type 0 = λ files listings at. CheckLooksAt (request_context_in standard shell files listings) e (lines_in text) at in
    let Whole : Files → Listings → Text → Type 0 = λ files listings at. CheckOfInputLooksAt arguments input input' e files listings at in
    only_wider_in_each agrees before now Here Whole (λ files listings agreed at h. (shell, text, named, given, h))
