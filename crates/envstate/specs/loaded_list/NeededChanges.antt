-- Which changes an environment needs, for the contracts of this crate's private functions.
use Rattle.std.specs.Prelude.{Bool, ◌||◌, List, [], ◌∷◌, filter, is_some}
use Rattle.envvars.specs.Environment.{Environment, lookup}
use Rattle.envvars.specs.Changes.{NewValue}
use Rattle.envstate.specs.loaded_list.LoadedTexts.{names_variable, files_variable, conflicts_variable, prereqs_variable}
use Rattle.envstate.specs.loaded_list.Loaded.{Entry, names_text, files_text, conflicts_text, prereqs_text}

-- whether a change gives its variable a value, or takes one from it
abbrev pub is_needed : Environment → NewValue → Bool
is_needed e c = is_some c.1 || is_some (lookup e c.0)

-- those that write the list; conflicts and prereqs are left out where they are unset and stay so
abbrev pub needed_changes : Environment → List Entry → List NewValue
needed_changes e entries =
    (names_variable, names_text entries) ∷ (files_variable, files_text entries)
    ∷ filter (is_needed e)
    ((conflicts_variable, conflicts_text entries) ∷ (prereqs_variable, prereqs_text entries) ∷ [])
