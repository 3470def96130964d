-- The laws of unloads that undo loads (own).
use Rattle.std.specs.Prelude.{◌≡◌, true, List, [], ◌∷◌, ◌++◌, Some, Ok}
use Rattle.std.specs.List.{list_all}
use Rattle.envvars.specs.Texts.{Text}
use Rattle.envvars.specs.Environment.{Environment}
use Rattle.envstate.specs.loaded_list.Loaded.{Entry, loaded_in}
use Rattle.envstate.specs.Frames.{OnlyAmong, loaded_names}
use Rattle.modulefile.specs.Records.{Record}
use Rattle.modulefile.specs.Judgments.{is_allowed}
use Rattle.modulefile.specs.Effects.{load, unload, effects}
use Rattle.modulefile.specs.Moves.{Module, Move, Loads, entry_of, moved, MovesReach}
use Rattle.reversal.specs.VariableUses.{VariableUse}
use Rattle.reversal.specs.Undone.{UndoEquivalently}
use Rattle.reversal.specs.Starts.{IsInOrder, IsStart, IsStartWith}
use Rattle.reversal.specs.Requests.{RequestOutcome, all_moves, RequestsReach}
use Rattle.reversal.specs.Runs.{live_after, AreReversibleTogether, AreReversible}

-- in order, the start with the live modules over it, and the start itself where no module is live
pub record Holds (uses : Text → VariableUse) (start : Environment) (live : List Module) (e : Environment) : Type 0 where
  pub order : IsInOrder uses e
  pub start_with_live : IsStartWith uses start live e
  pub returned : live ≡ [] → e ≡ start

-- Accepted loads and unloads of new modules that are reversible and apart reach from a start an environment that is in
-- order and is the start with the live modules over it, and the start itself where no module is live.
abbrev pub RunsReturn : Type 0
RunsReturn =
    (uses : Text → VariableUse) (start e : Environment) (ms : List Move) → IsStart uses start
    → AreReversible uses [] ms → MovesReach ms start e → Holds uses start (live_after [] ms) e

-- So is the environment after each of the moves.
abbrev pub EachMoveHolds : Type 0
EachMoveHolds =
    (uses : Text → VariableUse) (start e : Environment) (done rest : List Move) → IsStart uses start
    → AreReversible uses [] (done ++ rest) → MovesReach (done ++ rest) start e
    → (mid : Environment) × MovesReach done start mid × MovesReach rest mid e × Holds uses start
    (live_after [] done) mid

-- So is every environment between requests, some of which may have been refused.
abbrev pub RequestsReturn : Type 0
RequestsReturn =
    (uses : Text → VariableUse) (start e : Environment) (done rest : List RequestOutcome) → IsStart uses start
    → AreReversible uses [] (all_moves (done ++ rest)) → RequestsReach (done ++ rest) start e
    → (mid : Environment) × RequestsReach done start mid × RequestsReach rest mid e
    × Holds uses start (live_after [] (all_moves done)) mid

-- From any environment in order that is a start with live modules over it, whatever was before, moves reach such an
-- environment.
abbrev pub MovesPreserve : Type 0
MovesPreserve =
    (uses : Text → VariableUse) (start old new : Environment) (live : List Module) (ms : List Move) → IsStart uses start
    → IsInOrder uses old → IsStartWith uses start live old → AreReversibleTogether uses live
    → AreReversible uses live ms → MovesReach ms old new
    → Holds uses start (live_after live ms) new × AreReversibleTogether uses (live_after live ms)

-- what an accepted load makes: the effects of the records, and then the new entry at the end of the list
pub record IsLoad (m : Module) (old new : Environment) : Type 0 where
  pub after : Environment
  pub effects : effects load m.name m.records old ≡ Ok after
  pub entry : (xs : List Entry) → loaded_in after ≡ Some xs → loaded_in new ≡ Some (xs ++ entry_of m ∷ [])
  pub only : OnlyAmong after new loaded_names

-- an accepted load has this effect
abbrev pub LoadsAreExact : Type 0
LoadsAreExact = (m : Module) (old new : Environment) → moved (Loads m) old ≡ Ok new → IsLoad m old new

-- Where records undo equivalently, what an accepted unload by the ones makes, an unload by the others makes as well: it is
-- accepted if nothing forbids any of these.
abbrev pub UnloadsAreAlike : Type 0
UnloadsAreAlike =
    (owner : Text) (rs ss : List Record) (old new : Environment) → UndoEquivalently rs ss → list_all is_allowed ss ≡ true
    → effects unload owner rs old ≡ Ok new → effects unload owner ss old ≡ Ok new
