-- Requests: the outcome of each, and what environment a list of them reaches (module(1)).
use Rattle.std.specs.Prelude.{◌≡◌, List, [], ◌∷◌, ◌++◌}
use Rattle.envvars.specs.Environment.{Environment}
use Rattle.modulefile.specs.Moves.{Move, MovesReach}

-- A request is accepted with its moves, the first of them first: one for each module that it loads or unloads, so that
-- a switch is an unload and then a load. Or it is refused.
pub data RequestOutcome : Type 0 where
  accepted : (moves : List Move) → RequestOutcome
  refused : RequestOutcome

-- the moves of a request: a refused one has none
abbrev pub moves_of : RequestOutcome → List Move
moves_of (accepted moves) = moves
moves_of refused = []

-- those of several
abbrev pub all_moves : List RequestOutcome → List Move
all_moves [] = []
all_moves (o ∷ os) = moves_of o ++ all_moves os

-- what one request reaches: a refused one leaves the environment unchanged
abbrev pub RequestReaches : RequestOutcome → Environment → Environment → Type 0
RequestReaches (accepted moves) old new = MovesReach moves old new
RequestReaches refused old new = new ≡ old

-- what requests reach, the first of them first
abbrev pub RequestsReach : List RequestOutcome → Environment → Environment → Type 0
RequestsReach [] old new = new ≡ old
RequestsReach (o ∷ os) old new = (mid : Environment) × RequestReaches o old mid × RequestsReach os mid new
