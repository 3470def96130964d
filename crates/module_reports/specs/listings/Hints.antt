-- What a user is told where a report or an unload comes to nothing (module(1), `avail` and `unload`).
use Rattle.std.specs.Prelude.{Bool, not, ◌==◌, ◌||◌, List, [], ◌∷◌, ◌++◌, codes, bytes_eq, find, nat_eq, if◌then◌else◌}
use Rattle.std.specs.Prelude.{Option, Some, None}
use Rattle.std.specs.List.{flat_map, list_any, slice_split, starts_with}
use Rattle.message.specs.Messages.{Text}
use Rattle.modulename.specs.ModuleName.{means}
use Rattle.terminal.specs.text.Shown.{shown}
use Rattle.envvars.specs.Environment.{Environment}
use Rattle.envstate.specs.loaded_list.Loaded.{Entry}
use Rattle.requests.specs.Steps.{modulepath}
use Rattle.module_words.specs.subcommands.Meanings.{is_option}

-- no name of a module has one of the texts
unfoldable pub none_begins : Text
none_begins =
    codes "No module begins so. \"avail\" takes the beginnings of names, as \"module avail gcc\", with small letters and capitals as they are; no patterns. \"avail -C\" takes any part of a name, and \"avail -i\" either letters.\n"

-- no module is in the directories
abbrev pub none_is_there : Text → Text
none_is_there directories =
    codes "No module is in the directories of MODULEPATH: " ++ (shown directories ++ codes "\n")

-- one of the words is a text
abbrev pub has_text : List Text → Bool
has_text words = list_any (λ word. not (is_option word)) words

-- why `avail` finds no module
abbrev pub why_none : Environment → List Text → Text
why_none env words =
    if bytes_eq (modulepath env) [] then codes "No MODULEPATH is set.\n"
    else if has_text words then none_begins else none_is_there (modulepath env)

-- the line of a directory; an empty element has none
abbrev pub directory_line : Text → Text
directory_line [] = []
directory_line (b ∷ rest) = (b ∷ rest) ++ 10 ∷ []

-- The directories that are searched, a line each.
abbrev pub directory_lines : Environment → Text
directory_lines env = flat_map directory_line (slice_split (λ b. b == 58) (modulepath env))

-- a loaded module whose name begins so
abbrev pub begins : Text → Entry → Bool
begins name entry = starts_with nat_eq entry.name name

-- the line that a module is loaded, but not by this name
abbrev pub but_line : Text → Text → Text
but_line name other = 39 ∷ (shown name ++ (codes "' isn't loaded, but '" ++ (shown other ++ codes "' is.\n")))

abbrev pub but : Text → Option Entry → Text
but name (Some entry) = but_line name entry.name
but name None = []

-- What is said of a name that was to be unloaded: nothing, if it means a loaded module.
abbrev pub hint : List Entry → Text → Text
hint entries name =
    if bytes_eq name [] || list_any (λ x. means name x.name) entries then [] else but name (find (begins name) entries)
