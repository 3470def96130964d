-- Which modules may be loaded beside one another, and what an unload may not take away (modulefile(5): conflict,
-- prereq).
use Rattle.std.specs.Prelude.{Bool, not, ◌&&◌, List, [], ◌∷◌, find, Option, None}
use Rattle.std.specs.List.{list_any}
use Rattle.std.specs.Option.{option_map, option_or}
use Rattle.modulename.specs.ModuleName.{means}
use Rattle.envvars.specs.Texts.{Text, has}
use Rattle.envstate.specs.loaded_list.Loaded.{Entry, names_of}
use Rattle.modulefile.specs.Records.{Record, conflict_names, prereq_groups}
use Rattle.requests.specs.Reasons.{RequestReason, conflict_with, prereq_missing, still_needed_by}

-- one of the names means a loaded module
abbrev pub is_met : List Entry → List Text → Bool
is_met entries group = list_any (λ name. list_any (λ x. means name x.name) entries) group

-- the first loaded module, in load order, whose own conflicts name this one
abbrev pub recorded_conflict : Text → List Entry → Option Entry
recorded_conflict name entries = find (λ x. list_any (λ c. means c name) x.conflicts) entries

-- the first loaded module that one of these names means: the names in order, and for each the modules in load order
abbrev pub own_conflict : List Text → List Entry → Option Entry
own_conflict [] entries = None
own_conflict (name ∷ names) entries = option_or (find (λ x. means name x.name) entries) (own_conflict names entries)

-- the first group that isn't met
abbrev pub missing_group : List (List Text) → List Entry → Option (List Text)
missing_group groups entries = find (λ group. not (is_met entries group)) groups

-- What forbids that a module with these records is loaded beside the loaded ones: their conflicts, then its own
-- conflicts, then its prereqs.
abbrev pub load_objection : Text → List Record → List Entry → Option RequestReason
load_objection name rs entries =
    option_or (option_map (λ x. conflict_with x.name) (recorded_conflict name entries)) (
    option_or (option_map (λ x. conflict_with x.name) (own_conflict (conflict_names rs) entries)) (
    option_map prereq_missing (missing_group (prereq_groups rs) entries)))

-- the module was loaded before, and a group that it needs was met then and isn't now
abbrev pub has_lost : List Entry → List Entry → Entry → Bool
has_lost before after x =
    has x.name (names_of before) && list_any (λ group. is_met before group && not (is_met after group)) x.prereqs

-- What forbids that a command ends: the first module, in load order, that has lost what it needs.
abbrev pub end_objection : List Entry → List Entry → Option RequestReason
end_objection before after = option_map (λ x. still_needed_by x.name) (find (has_lost before after) after)
