-- What a command of the function prints, with its status (module(1)).
use Rattle.std.specs.Prelude.{◌≡◌, ℕ, Bool, true, false, List, [], string_bytes, Result, Ok, Err}
use Rattle.message.specs.Messages.{Text}
use Rattle.envvars.specs.Environment.{Environment}
use Rattle.envvars.specs.Changes.{AreChanges, NewValue}
use Rattle.envvars.specs.Texts.{texts_in}
use Rattle.shelltext.specs.declared.shell.Shell.{Shell}
use Rattle.shelltext.specs.declared.print.PrintFault.TheVariants as prints
use Rattle.shelltext.specs.Printing as printing
use Rattle.shelltext.specs.Printing.{IsUnsayable}
use Rattle.shelltext.specs.Reading.{SaysDifference}
use Rattle.module_words.specs.function.Answers.{Answer, Answered, makes, truth}
use Rattle.module_words.specs.function.Faults.{HasReason}
use Rattle.module_words.specs.function.Faults as faults
use Rattle.module_words.specs.declared.function.output_fault.OutputFault.{OutputFault}
use Rattle.module_words.specs.declared.function.output_fault.OutputFault.TheVariants as outputs
use Rattle.module_words.specs.declared.function.output.FunctionOutput.{FunctionOutput}

-- the status of yes or no
abbrev pub status_of : Bool → ℕ
status_of true = 0
status_of false = 1

-- What is printed of an answer, with the status and the directories that are searched from then on: the text by which
-- the shell makes of the environment exactly the one that it is to have; or nothing.
abbrev pub IsOutput : Shell → Answer → Text → ℕ → List Text → Type 0
IsOutput shell (makes old new directories) text status added =
    SaysDifference shell text old new × (status ≡ 0) × (added ≡ directories)
IsOutput shell (truth b) text status added = (text ≡ []) × (status ≡ status_of b) × (added ≡ [])

-- the answer is an environment, and the shell has no text for the changes, first for those of this variable
abbrev pub LacksText : Shell → Answered → Text → Type 0
LacksText shell outcome name =
    (old : Environment) × (new : Environment) × (added : List Text) × (changes : List NewValue)
    × (outcome ≡ Ok (makes old new added)) × AreChanges old new changes × IsUnsayable shell changes name

-- the cause of a fault: it is a reason why there is no answer, or the answer has no text, or memory ran out
abbrev pub IsCaused : Shell → Answered → OutputFault → Type 0
IsCaused shell outcome (outputs.Refused fault) = HasReason fault outcome
IsCaused shell outcome (outputs.Unprinted prints.OutOfMemory) = Unit {0}
IsCaused shell outcome (outputs.Unprinted (prints.NotSayable name)) = LacksText shell outcome (string_bytes name)

-- The output is that of the command's answer, or the fault has its cause.
abbrev pub GivesOutput : Shell → Result FunctionOutput OutputFault → Answered → Type 0
GivesOutput shell (Ok output) outcome =
    (answer : Answer) × (outcome ≡ Ok answer)
    × IsOutput shell answer (string_bytes output.text) output.status (texts_in output.added)
GivesOutput shell (Err fault) outcome = IsCaused shell outcome fault

-- what stands behind `ERROR: `
abbrev pub message_of : OutputFault → Text
message_of (outputs.Refused fault) = faults.message_of fault
message_of (outputs.Unprinted fault) = (printing.refusal_of fault).text
