-- A modulefile evaluated: from its text to its records, messages and effects, or to why it is refused. The rules of
-- evaluation are those of Tcl (Tcl(n)), and what the commands mean is in modulefile(5).
use Rattle.std.specs.Prelude.{◌≡◌, ◌⊎◌, ℕ, Bool, true, false, List, [], ◌∷◌, codes, Option, Some, None, Result, Ok, Err}
use Rattle.envvars.specs.Texts.{Text}
use Rattle.envvars.specs.Environment.{Environment}
use Rattle.message.specs.Refusals.{number_of}
use Rattle.message.specs.declared.refusals.RefusalKind.TheVariants as kinds
use Rattle.tcltext.specs.chars.Faults as text_faults
use Rattle.tclrules.specs.Oracle.{HostRefusal, Question, Trace}
use Rattle.tclrules.specs.Derivation.{Halt, OutOfMemory, BadText, TooManyCommands, TooDeep, ValueTooLong}
use Rattle.tclrules.specs.Derivation.{NumberTooLarge, FractionOperand, LeftOut, Stopped, ByHost, EvaluationOutcome}
use Rattle.tclrules.specs.Derivation.{Ended, Halted, World}
use Rattle.tclrules.specs.Variables.{Variables}
use Rattle.tclrules.specs.Plans.{Completion, Normal, Raised, Returned, Broken, Continued}
use Rattle.tclrules.specs.Playing.{Played}
use Rattle.tclrules.specs.Meaning.{Setting, EvaluatesTo, line_at, outermost, play_file}
use Rattle.tclrules.specs.Places.{place_of}
use Rattle.tclrules.specs.declared.limits.Limits.{Limits}
use Rattle.tclrules.specs.declared.outcome.FaultPlace.{FaultPlace}
use Rattle.modulefile.specs.Records.{Record}
use Rattle.modulefile.specs.Effects.{effects}
use Rattle.modulefile.specs.Results.{◌>>=◌}
use Rattle.modulefile.specs.Calls.{CallReason}
use Rattle.modulefile.specs.Answers.{FileContext, records_in, record_outcome, oracle_of}

-- before the file: no record, no message, no question, no refusal
abbrev pub empty_trace : Trace
empty_trace = record { records = []; messages = []; asked = []; refused = None }

-- the global variables at the beginning: a file has its own path
abbrev pub globals_of : Text → Variables
globals_of path = (codes "ModulesCurrentModulefile", path) ∷ []

-- the evaluation of this text in a context, under these limits
abbrev pub setting_of : Limits → FileContext → Text → Setting
setting_of limits c text =
    record { limits = limits; script = text; globals = globals_of c.path; oracle = oracle_of c; trace = empty_trace }

-- What an accepted file leaves: its records, its messages, what it asked with the answers, and what the records made of
-- the environment before it.
pub record Ran : Type 0 where
  pub records : List Record
  pub messages : List Text
  pub asked : List Question
  pub env : Environment

-- whether anything was asked
abbrev pub any_question : List Question → Bool
any_question [] = false
any_question (q ∷ asked) = true

-- Why the evaluation of a file stopped: it was halted, or one of its commands was refused, by this number and for this
-- name, or it ended with an error that nothing caught, on this line of the file.
pub data FileStop : Type 0 where
  halted : Halt → FileStop
  refused : HostRefusal → FileStop
  failed : (message : Text) (line : ℕ) → FileStop

-- Why a file is refused.
pub record FileReason : Type 0 where
  pub stop : FileStop
  -- the full name of its module, and its path
  pub name : Text
  pub path : Text
  -- where its evaluation stood; None where no command had begun
  pub place : Option FaultPlace
  -- what it had said
  pub messages : List Text

-- the records of an evaluation, and their effects
abbrev pub ran_of : FileContext → Trace → Result Ran CallReason
ran_of c trace =
    records_in trace.records >>= (λ rs.
    record_outcome (effects c.mode c.name rs c.before) >>= (λ e.
    Ok (record { records = rs; messages = trace.messages; asked = trace.asked; env = e })))

-- a halt by the host is the refusal of a command, which the evaluation has by number and name
abbrev pub refused_by : ℕ → Option HostRefusal → FileStop
refused_by n None = halted (ByHost n)
refused_by n (Some refusal) = refused refusal

-- why a halted file stopped
abbrev pub halt_stop : Halt → Option HostRefusal → FileStop
halt_stop (ByHost n) refusal = refused_by n refusal
halt_stop halt refusal = halted halt

-- the reason of a file that stopped there, after these messages
abbrev pub stopped_at : FileContext → Option FaultPlace → List Text → FileStop → FileReason
stopped_at c place messages stop =
    record { stop = stop; name = c.name; path = c.path; place = place; messages = messages }

-- the reason of a file that stopped in this world
abbrev pub stopped_in : FileContext → Text → World → FileStop → FileReason
stopped_in c text w stop = stopped_at c (place_of text w.scripts) w.trace.messages stop

-- The outcome of a file by how its evaluation ended. No file ends by return, break or continue: the rules of evaluation
-- make the end of the file or an error of them.
abbrev pub FinishesFile : FileContext → Text → EvaluationOutcome Completion → World → Result Ran FileReason → Type 0
FinishesFile c text (Ended (Normal result s)) w o = (ran : Ran) × (ran_of c w.trace ≡ Ok ran) × (o ≡ Ok ran)
FinishesFile c text (Ended (Raised message s)) w o =
    o ≡ Err (stopped_in c text w (failed message (line_at text (outermost w.scripts))))
FinishesFile c text (Ended (Returned result s)) w o = ⊥
FinishesFile c text (Ended (Broken s)) w o = ⊥
FinishesFile c text (Ended (Continued s)) w o = ⊥
FinishesFile c text (Halted halt) w o = o ≡ Err (stopped_in c text w (halt_stop halt w.trace.refused))

-- The text of a modulefile, evaluated in a context under these limits, has this outcome.
abbrev pub RunsFile : Limits → FileContext → Text → Result Ran FileReason → Type 0
RunsFile limits c text o =
    (out : EvaluationOutcome Completion) × (w : World) × EvaluatesTo (setting_of limits c text) out w
    × FinishesFile c text out w o

-- the numbers by which files are refused
abbrev pub halt_number : Halt → ℕ
halt_number OutOfMemory = number_of kinds.MemoryForRequest
halt_number (BadText fault) = (text_faults.refusal_of fault).number
halt_number TooManyCommands = number_of kinds.TooManyCommands
halt_number TooDeep = number_of kinds.EvaluationTooDeep
halt_number ValueTooLong = number_of kinds.ValueTooLong
halt_number NumberTooLarge = number_of kinds.NumberTooLarge
halt_number FractionOperand = number_of kinds.FractionOperand
halt_number (LeftOut name) = number_of kinds.LeftOut
halt_number Stopped = number_of kinds.Stopped
halt_number (ByHost n) = n

abbrev pub stop_number : FileStop → ℕ
stop_number (halted halt) = halt_number halt
stop_number (refused refusal) = refusal.number
stop_number (failed message line) = number_of kinds.TclError

abbrev pub file_reason_number : FileReason → ℕ
file_reason_number reason = stop_number reason.stop

-- An evaluation has the same records as this one, or the host refused a command of it.
abbrev pub IsSameOrRefused : Ran → Result Ran FileReason → Type 0
IsSameOrRefused ran o =
    ((again : Ran) × (o ≡ Ok again) × (again.records ≡ ran.records))
    ⊎ ((n : ℕ) × (refusal : Option HostRefusal) × (reason : FileReason) × (o ≡ Err reason)
    × (reason.stop ≡ refused_by n refusal))

-- A file played: the definition as a function that computes. The number bounds the steps; None where it is too small.
abbrev pub played_ran : Result Ran CallReason → Option (Result Ran FileReason)
played_ran (Ok ran) = Some (Ok ran)
played_ran (Err reason) = None

abbrev pub played_outcome : FileContext → Text → Played Completion → Option (Result Ran FileReason)
played_outcome c text None = None
played_outcome c text (Some (Ended (Normal result s), w)) = played_ran (ran_of c w.trace)
played_outcome c text (Some (Ended (Raised message s), w)) =
    Some (Err (stopped_in c text w (failed message (line_at text (outermost w.scripts)))))
played_outcome c text (Some (Ended (Returned result s), w)) = None
played_outcome c text (Some (Ended (Broken s), w)) = None
played_outcome c text (Some (Ended (Continued s), w)) = None
played_outcome c text (Some (Halted halt, w)) = Some (Err (stopped_in c text w (halt_stop halt w.trace.refused)))

abbrev pub play : Limits → FileContext → Text → ℕ → Option (Result Ran FileReason)
play limits c text steps = played_outcome c text (play_file (setting_of limits c text) steps)
