-- What playing a file gives is its outcome.
use Rattle.std.proofs.Common.{◌≡◌, ℕ, Some, None, Result, Ok, Err, refl}
use Rattle.envvars.specs.Texts.{Text}
use Rattle.tclrules.specs.Derivation.{EvaluationOutcome, Ended, Halted, World}
use Rattle.tclrules.specs.Playing.{Played}
use Rattle.tclrules.specs.Plans.{Completion, Normal, Raised, Returned, Broken, Continued}
use Rattle.tclrules.specs.Rules.{rule}
use Rattle.tclrules.specs.Meaning.{Setting, EvaluatesTo, plan_of, first, play_file}
use Rattle.tclrules.specs.declared.limits.Limits.{Limits}
use Rattle.tclrules.proofs.Plays.{derived}
use Rattle.modulefile.specs.Calls.{CallReason}
use Rattle.modulefile.specs.Answers.{FileContext}
use Rattle.modulefile.specs.Files.{Ran, FileReason, setting_of, ran_of, RunsFile, played_ran, played_outcome}
use Rattle.modulefile.specs.Laws.{PlayedRuns}

comes_played : (s : Setting) (steps : ℕ) (o : EvaluationOutcome Completion) (w : World) → play_file s steps ≡ Some (o, w) → EvaluatesTo s o w
comes_played s steps o w e = derived s.oracle s.limits.commands (rule s.limits.value_bytes) steps (plan_of s.limits s.script s.oracle.reserved s.globals) (first s.trace) o w e

ok_shown : (r : Result Ran CallReason) (o : Result Ran FileReason) → played_ran r ≡ Some o → (ran : Ran) × (r ≡ Ok ran) × (o ≡ Ok ran)
ok_shown (Ok ran) o e = (ran, refl, cc)
ok_shown (Err r) o e = absurd (cc)

shown_runs : (limits : Limits) (c : FileContext) (text : Text) (steps : ℕ) (p : Played Completion)
    (o : Result Ran FileReason) → play_file (setting_of limits c text) steps ≡ p → played_outcome c text p ≡ Some o
    → RunsFile limits c text o
shown_runs limits c text steps None o h e = absurd (cc)
shown_runs limits c text steps (Some (Ended (Normal t s), w)) o h e =
    (Ended (Normal t s), w, comes_played (setting_of limits c text) steps (Ended (Normal t s)) w h, ok_shown (ran_of c w.trace) o e)
shown_runs limits c text steps (Some (Ended (Raised m s), w)) o h e =
    (Ended (Raised m s), w, comes_played (setting_of limits c text) steps (Ended (Raised m s)) w h, cc)
shown_runs limits c text steps (Some (Ended (Returned t s), w)) o h e = absurd (cc)
shown_runs limits c text steps (Some (Ended (Broken s), w)) o h e = absurd (cc)
shown_runs limits c text steps (Some (Ended (Continued s), w)) o h e = absurd (cc)
shown_runs limits c text steps (Some (Halted f, w)) o h e =
    (Halted f, w, comes_played (setting_of limits c text) steps (Halted f) w h, cc)

pub played_runs : PlayedRuns
played_runs limits c text steps o e = shown_runs limits c text steps (play_file (setting_of limits c text) steps) o refl e
