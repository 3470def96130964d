-- Moves of which each load was admitted (own): nothing that was loaded at its moment forbade it.
use Rattle.std.specs.Prelude.{◌≡◌, List, [], ◌∷◌, Some, None, Ok}
use Rattle.envvars.specs.Environment.{Environment}
use Rattle.envstate.specs.loaded_list.Loaded.{Entry, loaded_in}
use Rattle.modulefile.specs.Moves.{Move, Loads, Unloads, moved}
use Rattle.requests.specs.Conditions.{load_objection}

-- A load is admitted where neither the conflicts that the loaded list records, nor those of the module itself, nor its
-- prereqs forbid it. An unload is always admitted.
abbrev pub IsAdmitted : Move → Environment → Type 0
IsAdmitted (Loads m) e =
    (xs : List Entry) × (loaded_in e ≡ Some xs) × (load_objection m.name m.records xs ≡ None)
IsAdmitted (Unloads m) e = Unit {0}

-- The moves make the second environment of the first, each admitted in the environment that it finds.
abbrev pub AdmittedMovesReach : List Move → Environment → Environment → Type 0
AdmittedMovesReach [] old new = new ≡ old
AdmittedMovesReach (m ∷ ms) old new =
    IsAdmitted m old × ((mid : Environment) × (moved m old ≡ Ok mid) × AdmittedMovesReach ms mid new)
