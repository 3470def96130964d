-- What is left of a list, and of its names and paths, without its last module, for the contracts of this crate's private
-- functions.
use Rattle.std.specs.Prelude.{◌≡◌, List, map, length, take, Some, ◌-◌}
use Rattle.envvars.specs.Texts.{Text}
use Rattle.envstate.specs.loaded_list.Loaded.{names_text, files_text, conflicts_text, prereqs_text, without_entry}
use Rattle.envstate.specs.loaded_list.LoadedEntries.{entry_view}
use Rattle.envstate.specs.declared.loaded_list.entry.Loaded.{Loaded}

-- the modules but the last
abbrev pub but_last : List Loaded → List Loaded
but_last xs = take (length xs - 1) xs

-- the last module alone has the name, and these are the texts of the names and of the paths without it; it is in no other text
pub record IsShortened (xs : List Loaded) (name names files : Text) : Type 0 where
  pub without : map entry_view (but_last xs) ≡ without_entry name (map entry_view xs)
  pub names_left : Some names ≡ names_text (map entry_view (but_last xs))
  pub files_left : Some files ≡ files_text (map entry_view (but_last xs))
  pub conflicts_stay : conflicts_text (map entry_view (but_last xs)) ≡ conflicts_text (map entry_view xs)
  pub prereqs_stay : prereqs_text (map entry_view (but_last xs)) ≡ prereqs_text (map entry_view xs)
