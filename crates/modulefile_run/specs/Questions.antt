-- The questions of a file, as the program holds them (own).
use Rattle.std.specs.Prelude.{◌≡◌, List, ◌∷◌, map, string_bytes}
use Rattle.std.specs.Option.{option_map}
use Rattle.tclrules.specs.Oracle as oracle
use Rattle.tclrules.specs.Oracle.{OfCommand, OfVariable}
use Rattle.modulefile.specs.Answers.{question_answer}
use Rattle.modulefile_run.specs.declared.question.Question.{Question}
use Rattle.modulefile_run.specs.declared.question.Question.TheVariants.{Command, Variable}

abbrev pub question_view : Question → oracle.Question
question_view (Command words answer) = OfCommand (map string_bytes words.items) (question_answer (string_bytes answer))
question_view (Variable name value) = OfVariable (string_bytes name) (option_map string_bytes value)

abbrev pub questions_in : List Question → List oracle.Question
questions_in asked = map question_view asked

-- it is the first of the list
abbrev pub IsFirst : Question → List Question → Type 0
IsFirst first asked = (later : List Question) × (asked ≡ first ∷ later)
