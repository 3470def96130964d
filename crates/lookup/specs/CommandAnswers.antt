-- What the answers of the host mean in the rules of evaluation (own).
use Rattle.std.specs.Prelude.{false, List, [], None, map, string_bytes, vec_items, String}
use Rattle.std.specs.declared.vec.Vec.{Vec}
use Rattle.std.specs.declared.alloc.Global.{Global}
use Rattle.modulename.specs.ModuleName.{Text}
use Rattle.tclrules.specs.Oracle.{OracleAnswer, Nothing, NewRecord, Done, Unknown, LeftOut, Refused}
use Rattle.lookup.specs.declared.command_answers.CommandAnswer.{CommandAnswer}
use Rattle.lookup.specs.declared.command_answers.CommandAnswer.TheVariants as command_answers

-- the answer to a command of these words
abbrev pub answer_view : CommandAnswer → List Text → OracleAnswer
answer_view command_answers.NewRecord words = Done [] (NewRecord words) false
answer_view command_answers.Dropped words = Done [] Nothing false
answer_view (command_answers.Refused n) words = Refused n None false
answer_view (command_answers.LeftOut name) words = LeftOut name.now false
answer_view command_answers.Unknown words = Unknown false

-- the words of each command
abbrev pub texts_of_words : Vec (String Global) Global → List Text
texts_of_words words = map string_bytes (vec_items words)
