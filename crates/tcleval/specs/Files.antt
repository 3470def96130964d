-- How a file ends (own; after the completion codes of catch(n)): its failure in the rules of evaluation, and the answer
-- of the program.
use Rattle.std.specs.Prelude.{◌≡◌, ◌⊎◌, ℕ, List, Result, Ok, Err, string_bytes, String}
use Rattle.std.specs.declared.alloc.Global.{Global}
use Rattle.tcltext.specs.chars.Runs.{Text}
use Rattle.tclrules.specs.Derivation.{EvaluationOutcome, Ended, Halted, OpenScript}
use Rattle.tclrules.specs.Variables.{State}
use Rattle.tclrules.specs.Plans as plans
use Rattle.tclrules.specs.Plans.{Normal, Raised, Step, ended, halt, raise}
use Rattle.tclrules.specs.Places.{place_of}
use Rattle.tclrules.specs.Promise.{ReportsFault, texts_of}
use Rattle.tclrules.specs.declared.outcome.Ending.{Ending}
use Rattle.tclrules.specs.declared.outcome.EvalFault.{EvalFault}
use Rattle.tclrules.specs.declared.outcome.EvalFault.TheVariants as fault
use Rattle.tclrules.specs.declared.outcome.PlacedFault.{PlacedFault}
use Rattle.tclforms.specs.substitution.Stops.{error_or_halt}

-- the outcome of a file that fails in this state
abbrev pub failure_outcome : EvalFault → State → EvaluationOutcome plans.Completion
failure_outcome f s = error_or_halt (λ m. Ended (Raised m s)) Halted f

-- the plan of the rules at the end of a file
abbrev pub after_file : Result (String Global) EvalFault → State → Step
after_file (Ok t) s = ended (Normal (string_bytes t) s)
after_file (Err f) s = error_or_halt (λ m. raise m s) halt f

-- a fault reports the failure of a file within these scripts
abbrev pub ReportsFailure : Text → List OpenScript → EvalFault → EvalFault → Type 0
ReportsFailure script scripts failure f = (s : State) → ReportsFault script scripts f (failure_outcome failure s)

-- the fault and the place of the failure of a file
abbrev pub IsPlaced : Text → List OpenScript → EvalFault → PlacedFault → Type 0
IsPlaced script scripts failure f = ReportsFailure script scripts failure f.fault × (f.place ≡ place_of script scripts)

-- the answer for a file that ended with these variables, this count of commands and these scripts; or memory ran out
abbrev pub AnswersFile : Text → State → ℕ → List OpenScript → Result (String Global) EvalFault
    → Result Ending PlacedFault → Type 0
AnswersFile script s used scripts (Ok t) (Ok end) =
    (string_bytes end.result ≡ string_bytes t) × (end.used_commands ≡ used)
    × (s.globals ≡ texts_of end.globals.items)
AnswersFile script s used scripts (Ok t) (Err f) = f.fault ≡ fault.OutOfMemory
AnswersFile script s used scripts (Err failure) (Ok end) = ⊥
AnswersFile script s used scripts (Err failure) (Err f) = (f.fault ≡ fault.OutOfMemory)
    ⊎ IsPlaced script scripts failure f
