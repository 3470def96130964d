-- What the values of the code stand for in the definitions, for the contracts of private functions (own).
use Rattle.std.specs.Prelude.{◌≡◌, ℕ, true, false, List, [], map, string_bytes, String, Result, Ok, Err}
use Rattle.std.specs.Borrow.{Bor}
use Rattle.std.specs.declared.alloc.Global.{Global}
use Rattle.message.specs.Messages.{Text}
use Rattle.envvars.specs.Changes.{AreChanges, new_values_in}
use Rattle.envvars.specs.Texts.{texts_in}
use Rattle.envstate.specs.declared.paths.adding.End.{End}
use Rattle.shelltext.specs.declared.shell.Shell.{Shell}
use Rattle.shelltext.specs.declared.print.PrintFault.{PrintFault}
use Rattle.shelltext.specs.declared.print.PrintFault.TheVariants as prints
use Rattle.shelltext.specs.Printing.{IsPrintFault}
use Rattle.shelltext.specs.Reading.{TextSays}
use Rattle.module_words.specs.function.Answers.{Answer, Answered, makes, truth}
use Rattle.module_words.specs.function.Faults.{HasReason}
use Rattle.module_words.specs.declared.function.answer.Answer as code
use Rattle.module_words.specs.declared.function.answer.Answer.TheVariants as answers
use Rattle.module_words.specs.declared.function.fault.FunctionFault.{FunctionFault}

-- the texts of words
abbrev pub texts_of : Bor (List (String Global)) → List Text
texts_of words = map string_bytes words.now

-- words for an end of MODULEPATH
abbrev pub end_view : End × Bor (List (String Global)) → End × List Text
end_view p = (p.0, texts_of p.1)

-- an answer of the code: the changes are the difference to the environment that is to be made
abbrev pub IsAnswer : code.Answer → Answer → Type 0
IsAnswer (answers.Changes changes added) (makes old new directories) =
    AreChanges old new (new_values_in changes) × (texts_in added ≡ directories)
IsAnswer (answers.Changes changes added) (truth b) = ⊥
IsAnswer (answers.Truth a) (makes old new directories) = ⊥
IsAnswer (answers.Truth a) (truth b) = a ≡ b

-- the call answered what the definitions have
abbrev pub Answers : Result code.Answer FunctionFault → Answered → Type 0
Answers (Ok a) outcome = (b : Answer) × (outcome ≡ Ok b) × IsAnswer a b
Answers (Err fault) outcome = HasReason fault outcome

-- the text that is printed for an answer
abbrev pub IsPrinted : Shell → code.Answer → Text → Type 0
IsPrinted shell (answers.Changes changes added) text = TextSays shell text (new_values_in changes)
IsPrinted shell (answers.Truth b) text = text ≡ []

-- why an answer has no text
abbrev pub IsUnprinted : Shell → code.Answer → PrintFault → Type 0
IsUnprinted shell (answers.Changes changes added) fault = IsPrintFault shell (new_values_in changes) fault
IsUnprinted shell (answers.Truth b) fault = fault ≡ prints.OutOfMemory

-- the status of an answer
abbrev pub status_in : code.Answer → ℕ
status_in (answers.Changes changes added) = 0
status_in (answers.Truth true) = 0
status_in (answers.Truth false) = 1

-- the directories that are searched from then on
abbrev pub added_in : code.Answer → List Text
added_in (answers.Changes changes added) = texts_in added
added_in (answers.Truth b) = []
