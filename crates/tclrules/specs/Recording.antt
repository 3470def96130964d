-- The oracle of the example host `Recorder`. Own.
use Rattle.std.specs.Prelude.{false, true, List, [], ◌∷◌, ◌++◌, if◌then◌else◌, Option, Some, None, map, string_bytes}
use Rattle.std.specs.Prelude.{codes, bytes_eq, String}
use Rattle.std.specs.declared.vec.Vec.{Vec}
use Rattle.std.specs.declared.alloc.Global.{Global}
use Rattle.tcltext.specs.chars.Runs.{Text}
use Rattle.tclrules.specs.Oracle.{CommandWords, Nothing, NewRecord, Message, OracleAnswer, Done, Unknown, Refused}
use Rattle.tclrules.specs.Variables.{Variables, lookup}

abbrev pub record_texts : Vec (String Global) Global → CommandWords
record_texts r = map string_bytes r.items

abbrev pub pair_texts : List (String Global × String Global) → Variables
pair_texts vs = map (λ v. (string_bytes v.0, string_bytes v.1)) vs

-- puts ?-nonewline? stderr t: the message is t, with a newline after it unless there is an option
abbrev pub message_in : CommandWords → Option Text
message_in (name ∷ channel ∷ t ∷ []) = Some (t ++ codes "\n")
message_in (name ∷ option ∷ channel ∷ t ∷ []) = Some t
message_in words = None

-- the answer to puts with this message
abbrev pub message_answer : Option Text → OracleAnswer
message_answer (Some t) = Done [] (Message t) false
message_answer None = Unknown false

-- the names of its commands but puts, which is Tcl's: no procedure may have them
unfoldable pub commands_of_recorder : List Text
commands_of_recorder = codes "setenv" ∷ codes "mode" ∷ codes "conflict" ∷ []

-- setenv is recorded, puts is a message, the mode is a question, conflict is refused, and no other command is there
abbrev pub named_answer : Text → Text → CommandWords → OracleAnswer
named_answer mode name words =
    if bytes_eq name (codes "setenv") then Done [] (NewRecord words) false
    else if bytes_eq name (codes "puts") then message_answer (message_in words)
    else if bytes_eq name (codes "mode") then Done mode Nothing true
    else if bytes_eq name (codes "conflict") then Refused 51 None false
    else Unknown false

abbrev pub answer_of : Text → List CommandWords → List Text → OracleAnswer
answer_of mode records [] = Unknown false
answer_of mode records (name ∷ words) = named_answer mode name (name ∷ words)

-- the environment never changes
abbrev pub value_in : Variables → List CommandWords → Text → Option Text
value_in environment records name = lookup environment name
