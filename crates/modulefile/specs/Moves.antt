-- Moves: a module is loaded with its records, or unloaded with its records (module(1)).
use Rattle.std.specs.Prelude.{◌≡◌, true, false, ◌&&◌, List, [], ◌∷◌, bytes_eq, Some, Result, Ok}
use Rattle.std.specs.List.{list_all, list_any}
use Rattle.envvars.specs.Texts.{Text, has}
use Rattle.envvars.specs.Environment.{Environment}
use Rattle.envvars.specs.Fields.{without_repeats}
use Rattle.envstate.specs.loaded_list.Loaded.{Entry, names_of, loaded_in, added_loaded, dropped_loaded}
use Rattle.modulefile.specs.Records.{Record, conflict_names, prereq_groups}
use Rattle.modulefile.specs.Judgments.{RecordReason, is_allowed}
use Rattle.modulefile.specs.Effects.{Mode, load, unload, effects, edit_outcome, and_then}

-- a module with the records of its file
pub record Module : Type 0 where
  pub name : Text
  pub path : Text
  pub records : List Record

-- the module's entry in the loaded list, where a repeated conflict stands once
abbrev pub entry_of : Module → Entry
entry_of m =
    record {
      name = m.name;
      path = m.path;
      conflicts = without_repeats (conflict_names m.records);
      prereqs = prereq_groups m.records;
    }

-- a load or an unload of one module
pub data Move : Type 0 where
  Loads : Module → Move
  Unloads : Module → Move

-- the module that a move loads or unloads
abbrev pub module_of_move : Move → Module
module_of_move (Loads m) = m
module_of_move (Unloads m) = m

-- the mode in which the module's file is evaluated
abbrev pub mode_of : Move → Mode
mode_of (Loads m) = load
mode_of (Unloads m) = unload

-- the entry joins the loaded list or leaves it
abbrev pub entry_moved : Move → Environment → Result Environment RecordReason
entry_moved (Loads m) e = edit_outcome (added_loaded e (entry_of m))
entry_moved (Unloads m) e = edit_outcome (dropped_loaded e m.name)

-- what a move makes of an environment: the effects of the records, and then the entry
abbrev pub moved : Move → Environment → Result Environment RecordReason
moved m e = and_then (effects (mode_of m) (module_of_move m).name (module_of_move m).records e) (entry_moved m)

-- the outcome of several moves, the first of them first
abbrev pub all_moved : List Move → Environment → Result Environment RecordReason
all_moved [] e = Ok e
all_moved (m ∷ ms) e = and_then (moved m e) (all_moved ms)

-- the names of the modules that moves load, in order
abbrev pub loaded_names : List Move → List Text
loaded_names [] = []
loaded_names (Loads m ∷ ms) = m.name ∷ loaded_names ms
loaded_names (Unloads m ∷ ms) = loaded_names ms

-- nothing forbids any record of the move
abbrev pub IsAllowed : Move → Type 0
IsAllowed m = list_all is_allowed (module_of_move m).records ≡ true

-- the same of several
abbrev pub AreAllowed : List Move → Type 0
AreAllowed [] = Unit {0}
AreAllowed (m ∷ ms) = IsAllowed m × AreAllowed ms

-- A module that is loaded isn't loaded already; one that is unloaded is, by this path.
abbrev pub Fits : Move → Environment → Type 0
Fits (Loads m) e = (xs : List Entry) × (loaded_in e ≡ Some xs) × (has m.name (names_of xs) ≡ false)
Fits (Unloads m) e = (xs : List Entry) × (loaded_in e ≡ Some xs)
    × (list_any (λ x. bytes_eq m.name x.name && bytes_eq m.path x.path) xs ≡ true)

-- The moves reach the second environment from the first, and each fits the environment that it finds.
abbrev pub MovesReach : List Move → Environment → Environment → Type 0
MovesReach [] old new = new ≡ old
MovesReach (m ∷ ms) old new = Fits m old × ((mid : Environment) × (moved m old ≡ Ok mid) × MovesReach ms mid new)
