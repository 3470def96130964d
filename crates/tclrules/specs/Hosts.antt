-- How a host of the program meets its oracle: the laws of the trait Host. Own.
use Rattle.std.specs.Prelude.{◌≡◌, Bool, List, Option, option_map, Result, Ok, Err, string_bytes, String}
use Rattle.std.specs.declared.alloc.Global.{Global}
use Rattle.std.specs.declared.alloc.AllocError.{AllocError}
use Rattle.tcltext.specs.chars.Runs.{Text}
use Rattle.tclrules.specs.Oracle as host
use Rattle.tclrules.specs.Oracle.{Addition, Oracle, Question, Trace, OracleAnswer, trace_after}
use Rattle.tclrules.specs.Derivation.{variable_read, with_questions}
use Rattle.tclrules.specs.declared.host.HostAnswer.{HostAnswer}
use Rattle.tclrules.specs.declared.host.HostAnswer.TheVariants.{Done, Unknown, LeftOut, Refused, OutOfMemory}

-- the oracle's answer to the words is this one, and the trace has it
abbrev pub TracesAnswer : host.CommandWords → OracleAnswer → OracleAnswer → Trace → Trace → Type 0
TracesAnswer words answer given old new = (answer ≡ given) × (new ≡ trace_after old words answer)

-- an answer to the words of a command. Without memory the records and messages stay, and what was asked is open
abbrev pub Answers : Oracle → host.CommandWords → HostAnswer → Trace → Trace → Type 0
Answers oracle words (Done t) old new = (adds : Addition) × (asks : Bool)
    × TracesAnswer words (oracle.command old.records words) (host.Done (string_bytes t) adds asks) old new
Answers oracle words Unknown old new = (asks : Bool)
    × TracesAnswer words (oracle.command old.records words) (host.Unknown asks) old new
Answers oracle words (LeftOut name) old new = (asks : Bool)
    × TracesAnswer words (oracle.command old.records words) (host.LeftOut (string_bytes name) asks) old new
Answers oracle words (Refused n) old new = (name : Option Text) × (asks : Bool)
    × TracesAnswer words (oracle.command old.records words) (host.Refused n name asks) old new
Answers oracle words OutOfMemory old new = (asked : List Question) × (new ≡ with_questions asked old)

-- the value of an environment variable
abbrev pub ReadsVariable : Oracle → Text → Result (Option (String Global)) AllocError → Trace → Trace → Type 0
ReadsVariable oracle name (Ok value) old new = (oracle.variable old.records name ≡ option_map string_bytes value)
    × (new ≡ variable_read name (option_map string_bytes value) old)
ReadsVariable oracle name (Err e) old new = (asked : List Question) × (new ≡ with_questions asked old)
