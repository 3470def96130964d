-- What happens in a session: acts of the tool, and changes by hand between them (own).
use Rattle.std.specs.Prelude.{◌≡◌, List, [], ◌∷◌, ◌++◌}
use Rattle.envvars.specs.Texts.{Text}
use Rattle.envvars.specs.Environment.{Environment}
use Rattle.modulefile.specs.Moves.{Module, Move}
use Rattle.reversal.specs.VariableUses.{VariableUse}
use Rattle.reversal.specs.Runs.{live_after}
use Rattle.requests.specs.hand_changes.HandChanges.{HandChange, changed, IsHandChange, start_after}

-- an act of the tool, as a load or a command, or a change by hand
pub data Event (A : Type 0) : Type 0 where
  act : A → Event A
  by_hand : HandChange → Event A

-- the moves of all acts, in order
abbrev pub moves_of : {A : Type 0} → (A → List Move) → List (Event A) → List Move
moves_of moves [] = []
moves_of moves (act a ∷ events) = moves a ++ moves_of moves events
moves_of moves (by_hand c ∷ events) = moves_of moves events

-- Events one after another, from a start with live modules over it. Each act is one that the start allows, as it is
-- then, and makes the next environment. Each change by hand is one that may be made, by the uses of variables while
-- these modules are live, and it makes the same change of the start. The last start is what all changes by hand have
-- made of the first, and the last environment what all events have made.
abbrev pub EventsReachWhile : {A : Type 0} → (A → List Move) → (A → Environment → Environment → Type 0)
    → (List Module → Text → VariableUse) → (Environment → A → Type 0) → List Module → Environment → Environment
    → List (Event A) → Environment → Environment → Type 0
EventsReachWhile moves Makes uses_while Allows live start e [] last_start last = (last_start ≡ start) × (last ≡ e)
EventsReachWhile moves Makes uses_while Allows live start e (act a ∷ events) last_start last =
    Allows start a × ((next : Environment) × Makes a e next
    × EventsReachWhile moves Makes uses_while Allows (live_after live (moves a)) start next events last_start last)
EventsReachWhile moves Makes uses_while Allows live start e (by_hand c ∷ events) last_start last =
    IsHandChange (uses_while live) live e c
    × EventsReachWhile moves Makes uses_while Allows live (start_after (uses_while live) live start e c) (changed c e)
    events last_start last

-- Events from a start with no live module, where each variable has one use in the whole session. Each start allows
-- every act. A beginning of such events is such events: so what holds after them holds at each moment.
abbrev pub EventsReach : {A : Type 0} → (A → List Move) → (A → Environment → Environment → Type 0)
    → (Text → VariableUse) → Environment → List (Event A) → Environment → Environment → Type 0
EventsReach moves Makes uses start events last_start last =
    EventsReachWhile moves Makes (λ live. uses) (λ b a. Unit {0}) [] start start events last_start last
