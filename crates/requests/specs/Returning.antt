-- The premises under which a run returns to its start (own): the modules are new, reversible and apart.
use Rattle.std.specs.Prelude.{◌≡◌, false, List, [], ◌∷◌, Some}
use Rattle.envvars.specs.Texts.{Text, has}
use Rattle.envvars.specs.Environment.{Environment}
use Rattle.envstate.specs.loaded_list.Loaded.{Entry, names_of, loaded_in}
use Rattle.modulefile.specs.Moves.{Module, Move, Loads, Unloads}
use Rattle.reversal.specs.VariableUses.{VariableUse}
use Rattle.reversal.specs.Undone.{UndoEquivalently}
use Rattle.reversal.specs.Runs.{live_named, without_live, IsReversibleAndApart}

-- the move unloads no module that is loaded at the start
abbrev pub IsNew : Environment → Move → Type 0
IsNew start (Loads m) = Unit {0}
IsNew start (Unloads m) = (xs : List Entry) → loaded_in start ≡ Some xs → has m.name (names_of xs) ≡ false

-- no move unloads a module that is loaded at the start
abbrev pub AreNew : Environment → List Move → Type 0
AreNew start [] = Unit {0}
AreNew start (m ∷ ms) = IsNew start m × AreNew start ms

-- the records of the unloaded module undo what those of its load undo
abbrev pub UndoesItsLoad : List Module → Module → Type 0
UndoesItsLoad live m = (loaded : Module) → live_named m.name live ≡ Some loaded → UndoEquivalently m.records loaded.records

-- Each load is of a module that is reversible and apart from the live ones, and the records of each unload undo what
-- those of its load undo.
abbrev pub AreReversibleBeside : (Text → VariableUse) → List Module → List Move → Type 0
AreReversibleBeside uses live [] = Unit {0}
AreReversibleBeside uses live (Loads m ∷ ms) = IsReversibleAndApart uses live m × AreReversibleBeside uses (m ∷ live) ms
AreReversibleBeside uses live (Unloads m ∷ ms) = UndoesItsLoad live m
    × AreReversibleBeside uses (without_live m.name live) ms
