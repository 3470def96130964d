-- What a host stands for: the oracle, which is how it answers, and the trace, which is what it has recorded. Own.
use Rattle.std.specs.Prelude.{ℕ, Bool, true, false, if◌then◌else◌, List, [], ◌∷◌, ◌++◌, Option, Some, None}
use Rattle.tcltext.specs.chars.Runs.{Text}

-- a record is the words of its command
abbrev pub CommandWords : Type 0
CommandWords = List Text

-- what a command adds to the trace: at most one record or message
pub data Addition : Type 0 where
  Nothing : Addition
  NewRecord : CommandWords → Addition
  Message : Text → Addition

-- an answer to the words of a command. Only a command that is done adds something. A refusal has a number, and the name
-- that it is about, where it is about one. The flag marks a question: the command asks for the environment, the mode,
-- the shell, the name as it was typed or the modules that are loaded
-- (`LeftOut`: the command is unsupported on purpose)
pub data OracleAnswer : Type 0 where
  Done : Text → Addition → Bool → OracleAnswer
  Unknown : Bool → OracleAnswer
  LeftOut : Text → Bool → OracleAnswer
  Refused : ℕ → Option Text → Bool → OracleAnswer

-- the names that no procedure may have, and the answers to the words of a command and to the name of an environment
-- variable, from the records so far
pub record Oracle : Type 0 where
  pub reserved : List Text
  pub command : List CommandWords → List Text → OracleAnswer
  pub variable : List CommandWords → Text → Option Text

-- by which number a command was refused, and about which name
pub record HostRefusal : Type 0 where
  pub number : ℕ
  pub name : Option Text

-- a refusal that is about no name
abbrev pub unnamed : ℕ → HostRefusal
unnamed n = record { number = n; name = None }

-- what was asked, and what was answered: the words of a command, or the name of an environment variable
pub data Question : Type 0 where
  OfCommand : CommandWords → OracleAnswer → Question
  OfVariable : Text → Option Text → Question

-- the records and messages so far, what was asked so far, and the refusal of a command
pub record Trace : Type 0 where
  pub records : List CommandWords
  pub messages : List Text
  pub asked : List Question
  pub refused : Option HostRefusal

-- what an answer adds
abbrev pub addition : OracleAnswer → Addition
addition (Done text adds asks) = adds
addition (Unknown asks) = Nothing
addition (LeftOut name asks) = Nothing
addition (Refused n name asks) = Nothing

abbrev pub is_question : OracleAnswer → Bool
is_question (Done text adds asks) = asks
is_question (Unknown asks) = asks
is_question (LeftOut name asks) = asks
is_question (Refused n name asks) = asks

abbrev pub is_refusal : OracleAnswer → Bool
is_refusal (Done text adds asks) = false
is_refusal (Unknown asks) = false
is_refusal (LeftOut name asks) = false
is_refusal (Refused n name asks) = true

abbrev pub records_with : List CommandWords → Addition → List CommandWords
records_with records Nothing = records
records_with records (NewRecord r) = records ++ r ∷ []
records_with records (Message m) = records

abbrev pub messages_with : List Text → Addition → List Text
messages_with messages Nothing = messages
messages_with messages (NewRecord r) = messages
messages_with messages (Message m) = messages ++ m ∷ []

-- words are among what was asked where they are a question
abbrev pub asked_with : List Question → CommandWords → OracleAnswer → List Question
asked_with asked words a = if is_question a then asked ++ OfCommand words a ∷ [] else asked

-- the refusal is that of the last command that was refused
abbrev pub refused_with : Option HostRefusal → OracleAnswer → Option HostRefusal
refused_with before (Done text adds asks) = before
refused_with before (Unknown asks) = before
refused_with before (LeftOut name asks) = before
refused_with before (Refused n name asks) = Some (record { number = n; name = name })

-- the trace after an answer to the words of a command
abbrev pub trace_after : Trace → CommandWords → OracleAnswer → Trace
trace_after t words a = record {
  records = records_with t.records (addition a);
  messages = messages_with t.messages (addition a);
  asked = asked_with t.asked words a;
  refused = refused_with t.refused a;
}
