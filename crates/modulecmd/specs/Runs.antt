-- Commands one after another, each in a shell that ran the texts of those before it (own).
use Rattle.std.specs.Prelude.{◌≡◌, List, [], ◌∷◌, map, Ok}
use Rattle.std.specs.List.{flat_map}
use Rattle.envvars.specs.Texts.{Text}
use Rattle.envvars.specs.Environment.{Environment}
use Rattle.filetree.specs.Agreement.{Files, Listings}
use Rattle.modulefile.specs.Moves.{Module, Move}
use Rattle.reversal.specs.VariableUses.{VariableUse}
use Rattle.reversal.specs.Starts.{IsInOrder, IsStart, IsStartWith}
use Rattle.reversal.specs.Runs.{live_after, AreReversibleTogether}
use Rattle.reversal.specs.Laws.{Holds}
use Rattle.requests.specs.Returning.{AreNew, AreReversibleBeside}
use Rattle.shelltext.specs.Reading.{TextMakes, SaysDifference}
use Rattle.requests.specs.hand_changes.HandChanges.{HandChange, changed, IsHandChange, start_after}
use Rattle.requests.specs.hand_changes.Events.{Event, act, moves_of, EventsReach}
use Rattle.requests.specs.hand_changes.Laws.{HoldsAfterEvents}
use Rattle.modulecmd.specs.Command.{CommandResult, CommandHasResult}
use Rattle.modulecmd.specs.Output.{ReturnsToStart}

-- a command that was accepted: its arguments, what it did, and the text that it printed
pub record PrintedCommand : Type 0 where
  pub arguments : List Text
  pub effect : CommandResult
  pub text : Text

-- Commands in one shell, over these files and directories. Each command has its effect in the environment that the
-- shell holds. Its text says exactly what that changes. The shell runs the text and holds the next environment, and
-- after all commands it holds the last.
abbrev pub ShellsHold : Files → Listings → Environment → List PrintedCommand → Environment → Type 0
ShellsHold files listings e [] last = last ≡ e
ShellsHold files listings e (c ∷ cs) last =
    CommandHasResult c.arguments e files listings (Ok c.effect) × SaysDifference c.effect.0 c.text e c.effect.1.env
    × (next : Environment) × TextMakes c.effect.0 c.text e next × ShellsHold files listings next cs last

-- the moves of the commands, in order
abbrev pub moves_in : List PrintedCommand → List Move
moves_in cs = flat_map (λ c. c.effect.1.moves) cs

-- From a start in order, after any commands that unload no module of the start, load modules that are reversible and
-- apart, and unload each by records that undo what those of its load undo: what the shell holds is in order and is the
-- start with the modules that are live then layered on it. With none it is the start.
abbrev pub ShellsReturn : Type 0
ShellsReturn =
    (uses : Text → VariableUse) (files : Files) (listings : Listings) (start last : Environment)
    (cs : List PrintedCommand)
    → IsStart uses start → ShellsHold files listings start cs last
    → AreNew start (moves_in cs) → AreReversibleBeside uses [] (moves_in cs)
    → Holds uses start (live_after [] (moves_in cs)) last

-- the moves of a command
abbrev pub command_moves : PrintedCommand → List Move
command_moves c = c.effect.1.moves

-- what the shell holds after it ran the command's text
abbrev pub CommandMakes : Files → Listings → PrintedCommand → Environment → Environment → Type 0
CommandMakes files listings c e next =
    CommandHasResult c.arguments e files listings (Ok c.effect) × SaysDifference c.effect.0 c.text e c.effect.1.env
    × TextMakes c.effect.0 c.text e next

-- From a start in order, after any such commands and changes by hand between them: what the shell holds is in order and
-- is what the same changes by hand have made of the start, with the modules that are live then layered on it. With none
-- it is what these changes have made of the start. A beginning of such a session is such a session, so it is so at each
-- moment. A variable that any module of the session sets isn't changed by hand in all of it, whether the module is loaded
-- or not.
abbrev pub ShellsAndHandsReturn : Type 0
ShellsAndHandsReturn =
    (uses : Text → VariableUse) (files : Files) (listings : Listings) (start last_start last : Environment)
    (events : List (Event PrintedCommand))
    → IsStart uses start → EventsReach command_moves (CommandMakes files listings) uses start events last_start last
    → AreNew start (moves_of command_moves events) → AreReversibleBeside uses [] (moves_of command_moves events)
    → HoldsAfterEvents uses last_start (moves_of command_moves events) last

-- Commands alone are such events, which leave the start as it was.
abbrev pub CommandsAreEvents : Type 0
CommandsAreEvents =
    (uses : Text → VariableUse) (files : Files) (listings : Listings) (start last : Environment)
    (cs : List PrintedCommand)
    → ShellsHold files listings start cs last
    → EventsReach command_moves (CommandMakes files listings) uses start (map act cs) start last
    × (moves_of command_moves (map act cs) ≡ moves_in cs)

-- One command after a change by hand, which knows no history: what its clause promises of any environment it promises
-- of the changed one, over what the same change makes of the start.
abbrev pub CommandAfterChange : Type 0
CommandAfterChange =
    (uses : Text → VariableUse) (start e next : Environment) (live : List Module) (c : HandChange)
    (effect : CommandResult) (text : Text)
    → IsStart uses start → IsInOrder uses e → IsStartWith uses start live e → AreReversibleTogether uses live
    → IsHandChange uses live e c → ReturnsToStart (changed c e) effect text
    → AreNew start effect.1.moves → AreReversibleBeside uses live effect.1.moves
    → TextMakes effect.0 text (changed c e) next
    → IsStart uses (start_after uses live start e c)
    × Holds uses (start_after uses live start e c) (live_after live effect.1.moves) next
    × AreReversibleTogether uses (live_after live effect.1.moves)
