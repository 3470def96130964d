-- The laws of changes by hand (own): one change, and sessions with changes by hand between the acts of the tool.
use Rattle.std.specs.Prelude.{◌≡◌, List, [], ◌∷◌, Ok}
use Rattle.envvars.specs.Texts.{Text}
use Rattle.envvars.specs.Environment.{Environment}
use Rattle.envstate.specs.loaded_list.Loaded.{loaded_in}
use Rattle.modulefile.specs.Moves.{Module, Move, moved, Fits}
use Rattle.reversal.specs.VariableUses.{VariableUse}
use Rattle.reversal.specs.Starts.{IsInOrder, IsStart, IsStartWith}
use Rattle.reversal.specs.Runs.{live_after, AreReversibleTogether, AreReversible}
use Rattle.reversal.specs.Laws.{Holds}
use Rattle.requests.specs.Requests.{Request}
use Rattle.requests.specs.Steps.{RequestContext}
use Rattle.requests.specs.Sessions.{Response, accepted, refused, given_up, in_shell, IsResponse, env_after}
use Rattle.requests.specs.Returning.{AreNew, AreReversibleBeside}
use Rattle.requests.specs.hand_changes.HandChanges.{HandChange, changed, IsHandChange, start_after}
use Rattle.requests.specs.hand_changes.Events.{Event, moves_of, EventsReach}

-- After a change by hand: what the same change makes of the start is a start, in which the same modules are loaded; and
-- the changed environment is in order and is that start with the live modules over it. With none it is that start.
pub record HoldsAfterChange (uses : Text → VariableUse) (start : Environment) (live : List Module) (e : Environment)
    (c : HandChange) : Type 0 where
  pub begins : IsStart uses (start_after uses live start e c)
  pub loaded : loaded_in (start_after uses live start e c) ≡ loaded_in start
  pub holds : Holds uses (start_after uses live start e c) live (changed c e)

-- So it is where the environment was in order, and a start with live modules over it.
abbrev pub OneChangeHolds : Type 0
OneChangeHolds =
    (uses : Text → VariableUse) (start e : Environment) (live : List Module) (c : HandChange) → IsStart uses start
    → IsInOrder uses e → IsStartWith uses start live e → IsHandChange uses live e c
    → HoldsAfterChange uses start live e c

-- After all events: what the changes by hand have made of the start is a start, and the environment is in order and is
-- that start with the live modules over it. With none it is what the same changes by hand have made of the start.
-- The live modules are reversible and apart.
abbrev pub HoldsAfterEvents : (Text → VariableUse) → Environment → List Move → Environment → Type 0
HoldsAfterEvents uses last_start moves last =
    IsStart uses last_start × Holds uses last_start (live_after [] moves) last
    × AreReversibleTogether uses (live_after [] moves)

-- a move as an act, of an environment that it fits
abbrev pub one_move : Move → List Move
one_move m = m ∷ []

abbrev pub MoveMakes : Move → Environment → Environment → Type 0
MoveMakes m old new = Fits m old × (moved m old ≡ Ok new)

-- So it is after accepted loads and unloads of new modules that are reversible and apart, and changes by hand between
-- them.
abbrev pub MovesAndHandsReturn : Type 0
MovesAndHandsReturn =
    (uses : Text → VariableUse) (start last_start last : Environment) (events : List (Event Move)) → IsStart uses start
    → AreReversible uses [] (moves_of one_move events) → EventsReach one_move MoveMakes uses start events last_start last
    → HoldsAfterEvents uses last_start (moves_of one_move events) last

-- a request with its response as an act
abbrev pub response_moves : Response → List Move
response_moves (accepted d) = d.moves
response_moves (refused reason) = []
response_moves (given_up number) = []

abbrev pub answered_moves : Request × Response → List Move
answered_moves (r, o) = response_moves o

abbrev pub ResponseMakes : RequestContext → Request × Response → Environment → Environment → Type 0
ResponseMakes s (r, o) old new = IsResponse (in_shell s r.0) old r.1 o × (new ≡ env_after old o)

-- So it is after requests, accepted or refused, and changes by hand between them.
abbrev pub SessionsAndHandsReturn : Type 0
SessionsAndHandsReturn =
    (uses : Text → VariableUse) (s : RequestContext) (start last_start last : Environment)
    (events : List (Event (Request × Response)))
    → IsStart uses start → EventsReach answered_moves (ResponseMakes s) uses start events last_start last
    → AreNew start (moves_of answered_moves events)
    → AreReversibleBeside uses [] (moves_of answered_moves events)
    → HoldsAfterEvents uses last_start (moves_of answered_moves events) last
