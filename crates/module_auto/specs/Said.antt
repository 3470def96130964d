-- What is said of modules that were loaded or unloaded with those that were asked for (module(1), "Automated module
-- handling").
use Rattle.std.specs.Prelude.{Bool, true, false, not, ◌&&◌, List, [], ◌∷◌, ◌++◌, codes, filter, reverse, Option, Some, None}
use Rattle.std.specs.List.{flat_map, list_any}
use Rattle.envvars.specs.Texts.{Text}
use Rattle.envstate.specs.loaded_list.Loaded.{Entry}
use Rattle.modulename.specs.ModuleName.{means}
use Rattle.requests.specs.Steps.{last_meant}

-- one of the names means this module
abbrev pub is_meant : List Text → Text → Bool
is_meant names full = list_any (λ name. means name full) names

-- a name behind a blank
abbrev pub behind_blank : Text → Text
behind_blank name = 32 ∷ name

-- what was done to modules that were asked for, and to more with them; nothing, if there are no more
abbrev pub with_line : Text → List Text → List Text → Text
with_line doing asked [] = []
with_line doing asked (one ∷ more) =
    doing ++ (flat_map behind_blank asked ++ (codes " with" ++ (flat_map behind_blank (one ∷ more) ++ codes "\n")))

-- a name that was added means the module, and none that was asked for
abbrev pub is_put_in : List Text → List Text → Text → Bool
is_put_in asked added full = is_meant added full && not (is_meant asked full)

-- it was put in, or it wasn't
abbrev pub is_chosen : List Text → List Text → Bool → Text → Bool
is_chosen asked added true full = is_put_in asked added full
is_chosen asked added false full = not (is_put_in asked added full)

-- the loaded modules that were put in, or the others
abbrev pub loaded_with : List Text → List Text → Bool → List Text → List Text
loaded_with asked added put_in loaded = filter (is_chosen asked added put_in) loaded

-- What is said of a load: the modules that were asked for, and those that were put in.
abbrev pub loading_line : List Text → List Text → List Text → Text
loading_line asked added loaded =
    with_line (codes "Loading") (loaded_with asked added false loaded) (loaded_with asked added true loaded)

-- the name of a module, if there is one
abbrev pub name_in : Option Entry → List Text
name_in (Some entry) = entry.name ∷ []
name_in None = []

-- the loaded modules that names mean
abbrev pub meant_modules : List Entry → List Text → List Text
meant_modules entries names = flat_map (λ name. name_in (last_meant name entries)) names

-- What is said of an unload: the loaded modules that were asked for, and those that were put in, of which each was put in
-- front of all.
abbrev pub unloading_line : List Entry → List Text → List Text → Text
unloading_line entries asked added = with_line (codes "Unloading") (meant_modules entries asked) (reverse added)
