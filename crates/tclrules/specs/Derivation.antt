-- Derivations, for any table of rules: which outcome a plan evaluates to. A plan says what is counted, asked and run,
-- and in which order; a table has a plan for each job. The rules leave the oracle and the limit
-- on commands to these. Own.
use Rattle.std.specs.Prelude.{◌≡◌, ℕ, ◌+◌, ◌<◌, ◌≤◌, ◌⊎◌, Bool, true, false, List, [], ◌∷◌, ◌++◌, Option}
use Rattle.tcltext.specs.chars.Runs.{Text}
use Rattle.tcltext.specs.declared.chars.fault.TextFault.{TextFault}
use Rattle.tclrules.specs.Oracle as host
use Rattle.tclrules.specs.Oracle.{CommandWords, Trace, OracleAnswer, Done, Unknown, Refused, Oracle, trace_after}
use Rattle.tclrules.specs.Oracle.{Question, OfCommand, OfVariable}
use Rattle.tclrules.specs.Oracle.{is_question, is_refusal, records_with, addition}

-- why an evaluation is halted, which catch(n) doesn't catch
pub data Halt : Type 0 where
  OutOfMemory : Halt
  BadText : TextFault → Halt
  TooManyCommands : Halt
  TooDeep : Halt
  ValueTooLong : Halt
  NumberTooLarge : Halt
  FractionOperand : Halt
  LeftOut : Text → Halt
  Stopped : Halt
  ByHost : ℕ → Halt

-- an evaluation ended with a result, or was halted
pub data EvaluationOutcome (R : Type 0) : Type 0 where
  Ended : R → EvaluationOutcome R
  Halted : Halt → EvaluationOutcome R

-- how a host replies to a command that is neither unsupported nor refused
pub data HostReply : Type 0 where
  WithResult : Text → HostReply
  NoSuchCommand : HostReply

-- a script under evaluation: how many scripts may still be nested inside of it, its text, and the offset in it, in bytes,
-- of its current command
pub record OpenScript : Type 0 where
  pub remaining : ℕ
  pub text : Text
  pub offset : ℕ

-- what is still to be evaluated, with jobs J and results R
pub data Plan (J R : Type 0) : Type 0 where
  -- the outcome is known
  Ends : EvaluationOutcome R → Plan J R
  -- a command or a turn is counted first
  Counts : Plan J R → Plan J R
  -- the scripts under evaluation change first: one begins, comes to its next command, or is left
  Moves : (List OpenScript → List OpenScript) → Plan J R → Plan J R
  -- the words of a command go to the host, whose reply decides
  Consults : List Text → (HostReply → Plan J R) → Plan J R
  -- an environment variable is read, whose value decides
  ReadsEnvironment : Text → (Option Text → Plan J R) → Plan J R
  -- a job runs, whose result decides
  Runs : J → (R → Plan J R) → Plan J R

-- how many commands and turns were counted so far, the trace of the host, and the scripts under evaluation, the
-- innermost first
pub record World : Type 0 where
  pub used : ℕ
  pub trace : Trace
  pub scripts : List OpenScript

-- one command or turn more
abbrev pub count : World → World
count w = record { used = w.used + 1; trace = w.trace; scripts = w.scripts }

-- the world after its scripts have changed
abbrev pub move : (List OpenScript → List OpenScript) → World → World
move change w = record { used = w.used; trace = w.trace; scripts = change w.scripts }

-- the world after an answer of the host to the words of a command
abbrev pub world_after : World → CommandWords → OracleAnswer → World
world_after w words a = record { used = w.used; trace = trace_after w.trace words a; scripts = w.scripts }

-- the trace, and the world, with these questions in place of its own
abbrev pub with_questions : List Question → Trace → Trace
with_questions asked t = record { records = t.records; messages = t.messages; asked = asked; refused = t.refused }

abbrev pub having_asked : List Question → World → World
having_asked asked w = record { used = w.used; trace = with_questions asked w.trace; scripts = w.scripts }

-- the trace, and the world, after a variable of the environment was read, which had this value
abbrev pub variable_read : Text → Option Text → Trace → Trace
variable_read name value t = with_questions (t.asked ++ OfVariable name value ∷ []) t

abbrev pub ask : Text → Option Text → World → World
ask name value w = record { used = w.used; trace = variable_read name value w.trace; scripts = w.scripts }

-- the plan after an answer of the host
abbrev pub replied : {J R : Type 0} → (HostReply → Plan J R) → OracleAnswer → Plan J R
replied k (Done text adds asks) = k (WithResult text)
replied k (Unknown asks) = k NoSuchCommand
replied k (host.LeftOut name asks) = Ends (Halted (LeftOut name))
replied k (Refused n name asks) = Ends (Halted (ByHost n))

-- derivations: a plan evaluates from one world to an outcome and another world. Where memory may run out (the flag),
-- that can end it anywhere, and what was asked is open then
pub data Eval {J R : Type 0} (may_lack_memory : Bool) (oracle : Oracle) (most : ℕ) (rule : J → Plan J R) : Plan J R
    → World
    → EvaluationOutcome R → World → Type 0 where
  ends : {o : EvaluationOutcome R} {w : World} → Eval may_lack_memory oracle most rule (Ends o) w o w
  counts : {p : Plan J R} {w w' : World} {o : EvaluationOutcome R} → w.used < most
      → Eval may_lack_memory oracle most rule p (count w) o w' → Eval may_lack_memory oracle most rule (Counts p) w o w'
  meets_limit : {p : Plan J R} {w : World} → most ≤ w.used
      → Eval may_lack_memory oracle most rule (Counts p) w (Halted TooManyCommands) w
  moves : {change : List OpenScript → List OpenScript} {p : Plan J R} {w w' : World} {o : EvaluationOutcome R}
      → Eval may_lack_memory oracle most rule p (move change w) o w' → Eval may_lack_memory oracle most rule
      (Moves change p) w o w'
  consults : {words : List Text} {k : HostReply → Plan J R} {w w' : World} {o : EvaluationOutcome R}
      → Eval may_lack_memory oracle most rule (replied k (oracle.command w.trace.records words))
      (world_after w words (oracle.command w.trace.records words)) o w' → Eval may_lack_memory oracle most rule
      (Consults words k) w o w'
  reads : {name : Text} {k : Option Text → Plan J R} {w w' : World} {o : EvaluationOutcome R}
      → Eval may_lack_memory oracle most rule (k (oracle.variable w.trace.records name))
      (ask name (oracle.variable w.trace.records name) w) o w'
      → Eval may_lack_memory oracle most rule (ReadsEnvironment name k) w o w'
  runs : {j : J} {k : R → Plan J R} {w w' w'' : World} {r : R} {o : EvaluationOutcome R}
      → Eval may_lack_memory oracle most rule (rule j) w (Ended r) w' → Eval may_lack_memory oracle most rule
      (k r) w' o w''
      → Eval may_lack_memory oracle most rule (Runs j k) w o w''
  halts : {j : J} {k : R → Plan J R} {w w' : World} {f : Halt} → Eval may_lack_memory oracle most rule (rule j) w
      (Halted f) w'
      → Eval may_lack_memory oracle most rule (Runs j k) w (Halted f) w'
  lacks_memory : {p : Plan J R} {w : World} (asked : List Question) → may_lack_memory ≡ true
      → Eval may_lack_memory oracle most rule p w (Halted OutOfMemory) (having_asked asked w)

-- a consultation of the host: a command, or an environment variable
pub data Query : Type 0 where
  Command : List Text → Query
  Variable : Text → Query

-- this holds of each consultation of a derivation and the records before it
abbrev pub Throughout : {J R : Type 0} {may_lack_memory : Bool} {oracle : Oracle} {most : ℕ} {rule : J → Plan J R}
    {p : Plan J R} {w : World} {o : EvaluationOutcome R} {w' : World} → (List CommandWords → Query → Type 0)
    → Eval may_lack_memory oracle most rule p w o w' → Type 0
Throughout Holds ends = Unit {0}
Throughout Holds (counts h d) = Throughout Holds d
Throughout Holds (meets_limit h) = Unit {0}
Throughout Holds (moves d) = Throughout Holds d
Throughout Holds (consults {words = words} {w = w} d) = Holds w.trace.records (Command words) × Throughout Holds d
Throughout Holds (reads {name = name} {w = w} d) = Holds w.trace.records (Variable name) × Throughout Holds d
Throughout Holds (runs d c) = Throughout Holds d × Throughout Holds c
Throughout Holds (halts d) = Throughout Holds d
Throughout Holds (lacks_memory asked h) = Unit {0}

-- the second oracle answers as the first does, or refuses
abbrev pub AnswersOrRefuses : Oracle → Oracle → List CommandWords → Query → Type 0
AnswersOrRefuses first second records (Command words) = (second.command records words ≡ first.command records words)
    ⊎ ((n : ℕ) × (name : Option Text) × (asks : Bool) × (second.command records words ≡ Refused n name asks))
AnswersOrRefuses first second records (Variable name) = second.variable records name ≡ first.variable records name

-- a consultation that the oracle doesn't refuse
abbrev pub IsUnrefused : Oracle → List CommandWords → Query → Type 0
IsUnrefused oracle records (Command words) = is_refusal (oracle.command records words) ≡ false
IsUnrefused oracle records (Variable name) = Unit {0}

-- whether a consultation is a question
abbrev pub asks : Oracle → List CommandWords → Query → Bool
asks oracle records (Command words) = is_question (oracle.command records words)
asks oracle records (Variable name) = true

-- a consultation as a question, with its answer
abbrev pub question_of : Oracle → List CommandWords → Query → Question
question_of oracle records (Command words) = OfCommand words (oracle.command records words)
question_of oracle records (Variable name) = OfVariable name (oracle.variable records name)

-- where the consultation is a question, it is in the list
abbrev pub IsNoted : Oracle → List Question → List CommandWords → Query → Type 0
IsNoted oracle asked records query =
    asks oracle records query ≡ true → (before after : List Question)
    × (asked ≡ before ++ question_of oracle records query ∷ after)

-- the second oracle reserves the same names; and commands that are no questions for the first and that it doesn't
-- refuse, the second answers alike or refuses
abbrev pub AnswersAlikeUnasked : Oracle → Oracle → Type 0
AnswersAlikeUnasked first second =
    (second.reserved ≡ first.reserved) × ((records : List CommandWords) (words : List Text)
    → is_question (first.command records words) ≡ false → is_refusal (first.command records words) ≡ false
    → AnswersOrRefuses first second records (Command words))

-- an oracle answers a question anew as it was answered, or refuses it
abbrev pub AnswersAsBefore : Oracle → List CommandWords → Question → Type 0
AnswersAsBefore oracle records (OfCommand words answer) = (oracle.command records words ≡ answer)
    ⊎ ((n : ℕ) × (name : Option Text) × (asks : Bool) × (oracle.command records words ≡ Refused n name asks))
AnswersAsBefore oracle records (OfVariable name value) = oracle.variable records name ≡ value

-- an oracle answers all that a trace has asked as it was answered, or refuses it, whichever beginning of its records
-- stood before
abbrev pub RepeatsAnswers : Oracle → Trace → Type 0
RepeatsAnswers oracle t =
    (before after : List Question) (q : Question) → t.asked ≡ before ++ q ∷ after
    → (records rest : List CommandWords) → t.records ≡ records ++ rest → AnswersAsBefore oracle records q

-- the second records are the first with the additions of the oracle's answers to some commands
pub data Grows (oracle : Oracle) : List CommandWords → List CommandWords → Type 0 where
  none : {rs : List CommandWords} → Grows oracle rs rs
  more : {rs qs : List CommandWords} (words : List Text)
      → Grows oracle (records_with rs (addition (oracle.command rs words))) qs → Grows oracle rs qs
