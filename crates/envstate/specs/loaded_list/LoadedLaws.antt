-- The laws of the list of loaded modules: what is read again, and what its edits leave (own).
use Rattle.std.specs.Prelude.{◌≡◌, ◌++◌, [], ◌∷◌, List, Some, Ok, true, false, bytes_eq}
use Rattle.envvars.specs.Texts.{Text, has}
use Rattle.envvars.specs.Environment.{Environment, lookup}
use Rattle.envstate.specs.loaded_list.LoadedTexts.{names_variable, files_variable, conflicts_variable, prereqs_variable}
use Rattle.envstate.specs.loaded_list.Loaded.{Entry, IsLoadedList, AreLoadedInOrder, names_of, loaded_in, with_loaded}
use Rattle.envstate.specs.loaded_list.Loaded.{with_conflicts_once, without_entry, added_loaded, dropped_loaded}

-- The four texts that a list is written as are read as that list.
abbrev pub TextsAreReadAgain : Type 0
TextsAreReadAgain =
    (e : Environment) (entries : List Entry) → IsLoadedList entries
    → loaded_in (with_loaded e entries) ≡ Some entries

-- A list that is read from four texts can be written.
abbrev pub ReadIsWritable : Type 0
ReadIsWritable =
    (e : Environment) (entries : List Entry) → loaded_in e ≡ Some entries → IsLoadedList entries

-- After an accepted add the list has the new entry at its end.
abbrev pub AddMakes : Type 0
AddMakes =
    (old new : Environment) (entry : Entry) (entries : List Entry) → loaded_in old ≡ Some entries
    → added_loaded old entry ≡ Ok new → loaded_in new ≡ Some (entries ++ with_conflicts_once entry ∷ [])

-- After an accepted drop of a loaded module the list no longer has it.
abbrev pub DropMakes : Type 0
DropMakes =
    (old new : Environment) (name : Text) (entries : List Entry) → loaded_in old ≡ Some entries
    → has name (names_of entries) ≡ true → dropped_loaded old name ≡ Ok new
    → loaded_in new ≡ Some (without_entry name entries)

-- Writing a list leaves every variable but the four unchanged.
abbrev pub WritingLeaves : Type 0
WritingLeaves =
    (e : Environment) (entries : List Entry) (other : Text) → bytes_eq other names_variable ≡ false
    → bytes_eq other files_variable ≡ false → bytes_eq other conflicts_variable ≡ false
    → bytes_eq other prereqs_variable ≡ false → lookup (with_loaded e entries) other ≡ lookup e other

-- After an accepted add the list is in order.
abbrev pub AddOrders : Type 0
AddOrders =
    (old new : Environment) (entry : Entry) → added_loaded old entry ≡ Ok new → AreLoadedInOrder new

-- So it is after an accepted drop of a loaded module.
abbrev pub DropOrders : Type 0
DropOrders =
    (old new : Environment) (name : Text) (entries : List Entry) → loaded_in old ≡ Some entries
    → has name (names_of entries) ≡ true → dropped_loaded old name ≡ Ok new → AreLoadedInOrder new

-- A list in order stays in order after any accepted drop.
abbrev pub DropPreservesOrder : Type 0
DropPreservesOrder =
    (old new : Environment) (name : Text) → AreLoadedInOrder old → dropped_loaded old name ≡ Ok new
    → AreLoadedInOrder new
