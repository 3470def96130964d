-- What an automated load or unload answers, and why there is no answer (own).
use Rattle.std.specs.Prelude.{◌≡◌, Result, Ok, Err, string_bytes}
use Rattle.message.specs.Refusals.{NumberedText}
use Rattle.envvars.specs.Texts.{texts_in}
use Rattle.envvars.specs.Environment.{Environment}
use Rattle.filetree.specs.Agreement.{Files, Listings, InEachPair}
use Rattle.filetree.specs.Causes.{Applies}
use Rattle.modulefile.specs.Moves.{loaded_names}
use Rattle.shelltext.specs.Printing as printing
use Rattle.shelltext.specs.Reading.{SaysDifference}
use Rattle.shelltext.specs.declared.print.PrintFault.TheVariants as prints
use Rattle.shelltext.specs.declared.shell.Shell.{Shell}
use Rattle.requests.specs.Reasons.{RequestReason}
use Rattle.requests.specs.Steps.{Done}
use Rattle.modules.specs.Answers.{cause_of}
use Rattle.modules.specs.Messages as texts
use Rattle.shelltext.specs.Printing.{LacksText}
use Rattle.module_auto.specs.declared.answer.AutomaticAnswer.{AutomaticAnswer}
use Rattle.module_auto.specs.declared.fault.RequestFault.{RequestFault}
use Rattle.module_auto.specs.declared.fault.RequestFault.TheVariants as faults

-- what something comes to over the files and directories of a tree
abbrev pub Outcomes : Type 1
Outcomes = Files → Listings → Result Done RequestReason → Type 0

-- The answer of a step: in each pair of maps that agrees with the tree it comes to the same; the text says exactly the
-- difference that it makes of the environment, as the shell reads it; the messages are those of its files, and the
-- modules those that it has loaded.
abbrev pub IsAnswer : (Files → Listings → Type 0) → Shell → Environment → Outcomes → AutomaticAnswer → Type 0
IsAnswer agrees shell e Comes answer =
    (d : Done) × InEachPair agrees (λ files listings. Comes files listings (Ok d))
    × SaysDifference shell (string_bytes answer.text) e d.env × (texts_in answer.messages ≡ d.messages)
    × (texts_in answer.loaded ≡ loaded_names d.moves)

-- Why there is no answer: memory is wanting, the device has failed, it is refused for this reason in each pair of maps
-- that agrees with the tree, or what it comes to has changes without a text in the shell.
abbrev pub IsRequestFault : (Files → Listings → Type 0) → Type 0 → Shell → Environment → Outcomes → RequestFault
    → Type 0
IsRequestFault agrees failed shell e Comes (faults.Refused refusal) =
    Applies (cause_of refusal) failed
    (λ reason. InEachPair agrees (λ files listings. Comes files listings (Err reason)))
IsRequestFault agrees failed shell e Comes (faults.Unprinted prints.OutOfMemory) = Unit {0}
IsRequestFault agrees failed shell e Comes (faults.Unprinted (prints.NotSayable name)) =
    (d : Done) × InEachPair agrees (λ files listings. Comes files listings (Ok d))
    × LacksText shell e d.env (string_bytes name)

-- the number and the text of each fault
abbrev pub refusal_of : RequestFault → NumberedText
refusal_of (faults.Refused refusal) = texts.refusal_of refusal
refusal_of (faults.Unprinted fault) = printing.refusal_of fault
