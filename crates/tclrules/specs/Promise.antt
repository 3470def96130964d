-- What an evaluator of the program promises: the clauses of tcleval. Own.
use Rattle.std.specs.Prelude.{◌≡◌, ℕ, Bool, true, false, List, map, Result, Ok, Err, string_bytes, String}
use Rattle.std.specs.declared.alloc.Global.{Global}
use Rattle.tcltext.specs.chars.Runs.{Text}
use Rattle.tclrules.specs.Oracle.{Oracle, Trace}
use Rattle.tclrules.specs.Derivation.{OutOfMemory, BadText, TooManyCommands, TooDeep, ValueTooLong, NumberTooLarge}
use Rattle.tclrules.specs.Derivation.{FractionOperand, LeftOut, Stopped, ByHost, EvaluationOutcome, Ended, Halted}
use Rattle.tclrules.specs.Derivation.{OpenScript}
use Rattle.tclrules.specs.Variables.{Variables, State}
use Rattle.tclrules.specs.Plans as plans
use Rattle.tclrules.specs.Plans.{Normal, Raised}
use Rattle.tclrules.specs.Meaning.{HasOutcome, line_at, outermost}
use Rattle.tclrules.specs.declared.limits.Limits.{Limits}
use Rattle.tclrules.specs.declared.outcome.Ending.{Ending}
use Rattle.tclrules.specs.declared.outcome.EvalFault.{EvalFault}
use Rattle.tclrules.specs.declared.outcome.PlacedFault.{PlacedFault}
use Rattle.tclrules.specs.Places.{place_of}
use Rattle.tclrules.specs.declared.outcome.EvalFault.TheVariants as fault

-- the outcome of a script that a fault reports, where the evaluation ended within these scripts. The line of an error is
-- that on which the current command of the script itself begins
abbrev pub ReportsFault : Text → List OpenScript → EvalFault → EvaluationOutcome plans.Completion → Type 0
ReportsFault script scripts fault.OutOfMemory o = o ≡ Halted OutOfMemory
ReportsFault script scripts (fault.Text f) o = o ≡ Halted (BadText f)
ReportsFault script scripts (fault.TclError m n) o = (s : State) × (o ≡ Ended (Raised (string_bytes m) s))
    × (n ≡ line_at script (outermost scripts))
ReportsFault script scripts fault.TooManyCommands o = o ≡ Halted TooManyCommands
ReportsFault script scripts fault.TooDeep o = o ≡ Halted TooDeep
ReportsFault script scripts fault.ValueTooLong o = o ≡ Halted ValueTooLong
ReportsFault script scripts fault.NumberTooLarge o = o ≡ Halted NumberTooLarge
ReportsFault script scripts fault.FractionOperand o = o ≡ Halted FractionOperand
ReportsFault script scripts (fault.LeftOut name) o = o ≡ Halted (LeftOut (string_bytes name))
ReportsFault script scripts fault.Stopped o = o ≡ Halted Stopped
ReportsFault script scripts (fault.Host n) o = o ≡ Halted (ByHost n)

-- memory ran out, which may end an evaluation anywhere
abbrev pub is_out_of_memory : EvalFault → Bool
is_out_of_memory fault.OutOfMemory = true
is_out_of_memory (fault.Text f) = false
is_out_of_memory (fault.TclError m n) = false
is_out_of_memory fault.TooManyCommands = false
is_out_of_memory fault.TooDeep = false
is_out_of_memory fault.ValueTooLong = false
is_out_of_memory fault.NumberTooLarge = false
is_out_of_memory fault.FractionOperand = false
is_out_of_memory (fault.LeftOut name) = false
is_out_of_memory fault.Stopped = false
is_out_of_memory (fault.Host n) = false

-- variables of the program with their values
abbrev pub texts_of : List (String Global × String Global) → Variables
texts_of vs = map (λ v. (string_bytes v.0, string_bytes v.1)) vs

-- a call returned what the script evaluates to, with the traces of the host before and after, and the evaluation ended
-- within these scripts
abbrev pub EvaluatesWithin : Limits → Text → Variables → Oracle → Trace → Result Ending EvalFault → Trace
    → List OpenScript → Type 0
EvaluatesWithin l script globals oracle old (Ok e) new scripts =
    (s : State) × HasOutcome false l script globals oracle old (Ended (Normal (string_bytes e.result) s))
    (record { used = e.used_commands; trace = new; scripts = scripts }) × (s.globals ≡ texts_of e.globals.items)
EvaluatesWithin l script globals oracle old (Err f) new scripts =
    (o : EvaluationOutcome plans.Completion) × (used : ℕ) × ReportsFault script scripts f o
    × HasOutcome (is_out_of_memory f) l script globals oracle old o
    (record { used = used; trace = new; scripts = scripts })

-- a call returned what the script evaluates to, and the place of a fault is where the evaluation ended; of want of memory
-- no place is said
abbrev pub EvaluatesPlaced : Limits → Text → Variables → Oracle → Trace → Result Ending PlacedFault → Trace → Type 0
EvaluatesPlaced l script globals oracle old (Ok e) new =
    (scripts : List OpenScript) × EvaluatesWithin l script globals oracle old (Ok e) new scripts
EvaluatesPlaced l script globals oracle old (Err f) new =
    (scripts : List OpenScript) × EvaluatesWithin l script globals oracle old (Err f.fault) new scripts
    × (is_out_of_memory f.fault ≡ false → f.place ≡ place_of script scripts)

-- a call returned what the script evaluates to, with the traces of the host before and after
abbrev pub Evaluates : Limits → Text → Variables → Oracle → Trace → Result Ending EvalFault → Trace → Type 0
Evaluates l script globals oracle old result new =
    (scripts : List OpenScript) × EvaluatesWithin l script globals oracle old result new scripts
