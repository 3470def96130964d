-- What a command writes to its two writers (own).
use Rattle.std.specs.Prelude.{◌⊎◌, ◌<◌, ℕ, List, [], ◌++◌, take, length, Option, Result, Ok, Err}
use Rattle.std.specs.List.{flat_map}
use Rattle.std.specs.Io.KnownBytes.{Keeps, Appends}
use Rattle.envvars.specs.Texts.{Text}
use Rattle.envvars.specs.Environment.{Environment}
use Rattle.modulefile.specs.Moves.{Module}
use Rattle.reversal.specs.VariableUses.{VariableUse}
use Rattle.reversal.specs.Starts.{IsInOrder, IsStart, IsStartWith}
use Rattle.reversal.specs.Runs.{live_after, AreReversibleTogether}
use Rattle.reversal.specs.Laws.{Holds}
use Rattle.requests.specs.Steps.{Done}
use Rattle.shelltext.specs.Printing.{LacksText}
use Rattle.requests.specs.Returning.{AreNew, AreReversibleBeside}
use Rattle.filetree.specs.Agreement.{Files, Listings, InEachPair}
use Rattle.shelltext.specs.Reading.{TextMakes, SaysDifference}
use Rattle.modulecmd.specs.declared.command_fault.CommandFault.{CommandFault}
use Rattle.modulecmd.specs.declared.command_fault.CommandFault.TheVariants.{WriteFailed}
use Rattle.modulecmd.specs.Writing.{AppendsPart}
use Rattle.modulecmd.specs.Command.{CommandResult, CommandReason, IsCausedBy, IsNumbered}
use Rattle.modulecmd.specs.declared.command_exit.Exit.{Exit}
use Rattle.modulecmd.specs.declared.command_exit.Exit.TheVariants.{Success, Reported, CutShort}
use Rattle.modulecmd.specs.Lines.{line_of}

-- the effects and reasons of a command, over the files and directories of a tree
abbrev pub ResultRelation : Type 1
ResultRelation = Files → Listings → Result CommandResult CommandReason → Type 0

-- this is its effect or reason in each pair of maps that agrees with the tree
abbrev pub HasResultInEachPair : (Files → Listings → Type 0) → ResultRelation → Result CommandResult CommandReason
    → Type 0
HasResultInEachPair agrees Does o = InEachPair agrees (λ files listings. Does files listings o)

-- what goes to standard error: the messages, and then the report
abbrev pub standard_error_text : Done → Text
standard_error_text done = flat_map (λ message. message) done.messages ++ done.report

-- The premises: the start is in order; the environment is in order and is that start with live modules over it, which
-- are reversible and apart; and the command unloads no module of the start, loads modules that are reversible and apart
-- from the live ones, and unloads each by records that undo those of its load. The promise: what a shell makes of the
-- environment by running the text is in order and is the start with the modules that are live then over it. With none
-- it is the start.
abbrev pub ReturnsToStart : Environment → CommandResult → Text → Type 0
ReturnsToStart e f text =
    (uses : Text → VariableUse) (start new : Environment) (live : List Module)
    → IsStart uses start → IsInOrder uses e → IsStartWith uses start live e → AreReversibleTogether uses live
    → AreNew start f.1.moves → AreReversibleBeside uses live f.1.moves → TextMakes f.0 text e new
    → Holds uses start (live_after live f.1.moves) new × AreReversibleTogether uses (live_after live f.1.moves)

-- What an accepted command answers: this is its effect, the text says exactly the difference that the effect makes of
-- the environment, and it returns to the start.
abbrev pub IsPrepared : (Files → Listings → Type 0) → Environment → ResultRelation → CommandResult → Text → Type 0
IsPrepared agrees e Does f text =
    HasResultInEachPair agrees Does (Ok f) × SaysDifference f.0 text e f.1.env
    × InEachPair agrees (λ files listings. ReturnsToStart e f text)

-- What is written of a fault after a text: the whole line, or else a first part that is not the whole of it.
abbrev pub WritesFault : Exit → Option Text → Option Text → Text → CommandFault → Type 0
WritesFault Success err err' text fault = ⊥
WritesFault Reported err err' text fault = Appends err err' (text ++ line_of fault)
WritesFault CutShort err err' text fault =
    (k : ℕ) × (k < length (line_of fault)) × Appends err err' (text ++ take k (line_of fault))

-- a first part of the words that is not the whole of them, and then the line of a failed write
abbrev pub BreaksOff : Exit → Option Text → Option Text → Text → Type 0
BreaksOff exit err err' words = (k : ℕ) × (k < length words) × WritesFault exit err err' (take k words) WriteFailed

-- What is written of an answer: the words on standard error, and the text on standard output; or where a write to
-- standard error failed, a first part of the words and nothing on standard output; or where one to standard output
-- failed, a first part of the text.
abbrev pub FinishesWriting : Exit → Text → Text → Option Text → Option Text → Option Text → Option Text → Type 0
FinishesWriting Success words text out out' err err' = Appends out out' text × Appends err err' words
FinishesWriting exit words text out out' err err' =
    (Keeps out out' × BreaksOff exit err err' words)
    ⊎ (AppendsPart out out' text × WritesFault exit err err' words WriteFailed)

-- What an accepted command writes: its messages and its report, and its text; or the first part of these before a
-- failed write.
abbrev pub Accepts : Exit → (Files → Listings → Type 0) → Environment → ResultRelation → Option Text → Option Text
    → Option Text → Option Text → Type 0
Accepts exit agrees e Does out out' err err' =
    (f : CommandResult) × (text : Text) × IsPrepared agrees e Does f text
    × FinishesWriting exit (standard_error_text f.1) text out out' err err'

-- What a refused command writes: nothing on standard output, and the line that says why on standard error.
abbrev pub Refuses : Exit → CommandFault → Option Text → Option Text → Option Text → Option Text → Type 0
Refuses exit fault out out' err err' = Keeps out out' × WritesFault exit err err' [] fault

-- It has an effect whose changes have no text in the shell.
abbrev pub ResultLacksText : (Files → Listings → Type 0) → Environment → ResultRelation → Text → Type 0
ResultLacksText agrees e Does name = (f : CommandResult) × HasResultInEachPair agrees Does (Ok f)
    × LacksText f.0 e f.1.env name

-- The cause of a fault: memory is wanting, the device has failed, the changes have no text, or the reason is the
-- command's own in each pair of maps that agrees with the tree.
abbrev pub IsCaused : (Files → Listings → Type 0) → Type 0 → Environment → ResultRelation → CommandFault → Type 0
IsCaused agrees failed e Does fault =
    IsCausedBy fault (λ reason. HasResultInEachPair agrees Does (Err reason)) (ResultLacksText agrees e Does) failed

-- A fault refuses a command over a tree, by the number of its cause.
abbrev pub IsRefused : (Files → Listings → Type 0) → Type 0 → Environment → ResultRelation → CommandFault → Type 0
IsRefused agrees failed e Does fault = IsCaused agrees failed e Does fault × IsNumbered fault

-- What a command writes, by how it ended: it is accepted, or refused by a fault.
abbrev pub EndsCommand : Exit → (Files → Listings → Type 0) → Type 0 → Environment → ResultRelation → Option Text
    → Option Text → Option Text → Option Text → Type 0
EndsCommand exit agrees failed e Does out out' err err' =
    Accepts exit agrees e Does out out' err err'
    ⊎ ((fault : CommandFault) × IsRefused agrees failed e Does fault × Refuses exit fault out out' err err')

-- the status of the process
abbrev pub status_of : Exit → ℕ
status_of Success = 0
status_of Reported = 1
status_of CutShort = 1
