-- Loads and unloads of modules that are reversible and apart (own).
use Rattle.std.specs.Prelude.{◌≡◌, true, List, [], ◌∷◌, bytes_eq, if◌then◌else◌, Option, Some, None, is_some}
use Rattle.envvars.specs.Texts.{Text}
use Rattle.modulefile.specs.Moves.{Module, Move, Loads, Unloads}
use Rattle.reversal.specs.VariableUses.{VariableUse, AllSuit}
use Rattle.reversal.specs.Live.{last_set, live_set}
use Rattle.reversal.specs.Undone.{UndoEquivalently}

-- the live module of this name
abbrev pub live_named : Text → List Module → Option Module
live_named name [] = None
live_named name (m ∷ live) = if bytes_eq name m.name then Some m else live_named name live

-- the live modules without it
abbrev pub without_live : Text → List Module → List Module
without_live name [] = []
without_live name (m ∷ live) = if bytes_eq name m.name then live else m ∷ without_live name live

-- the live modules after the moves, newest first
abbrev pub live_after : List Module → List Move → List Module
live_after live [] = live
live_after live (Loads m ∷ ms) = live_after (m ∷ live) ms
live_after live (Unloads m ∷ ms) = live_after (without_live m.name live) ms

-- The module is reversible, and apart from those that are live: its records suit the uses of variables, and no variable
-- that it sets, or unsets with a value, is set or unset so by a live module.
pub record IsReversibleAndApart (uses : Text → VariableUse) (live : List Module) (m : Module) : Type 0 where
  pub suits : AllSuit uses m.records
  pub sets_apart : (v : Text) → is_some (last_set v m.records) ≡ true → live_set v live ≡ None

-- each of the live modules is reversible and apart from the older ones
abbrev pub AreReversibleTogether : (Text → VariableUse) → List Module → Type 0
AreReversibleTogether uses [] = Unit {0}
AreReversibleTogether uses (m ∷ live) = IsReversibleAndApart uses live m × AreReversibleTogether uses live

-- The unloaded module is live, and its records undo what those of its load undo.
pub record Undoes (live : List Module) (m : Module) : Type 0 where
  pub loaded : Module
  pub found : live_named m.name live ≡ Some loaded
  pub alike : UndoEquivalently m.records loaded.records

-- Each load is of a module that is reversible and apart from the live ones. Each unload is of a live module, by
-- records that undo what those of its load undo: so no module of the start is unloaded.
abbrev pub AreReversible : (Text → VariableUse) → List Module → List Move → Type 0
AreReversible uses live [] = Unit {0}
AreReversible uses live (Loads m ∷ ms) = IsReversibleAndApart uses live m × AreReversible uses (m ∷ live) ms
AreReversible uses live (Unloads m ∷ ms) = Undoes live m × AreReversible uses (without_live m.name live) ms
