-- For the contracts of private functions: tables of names, each with the value that it was given, or with none where it
-- was unset.
use Rattle.std.specs.Prelude.{Bool, not, List, [], ◌∷◌, map, string_bytes, Option}
use Rattle.std.specs.Option.{option_map}
use Rattle.std.specs.declared.string.String.{String}
use Rattle.std.specs.declared.alloc.Global.{Global}
use Rattle.indexmap.specs.IndexMap.{IndexMap, get_by_text}
use Rattle.envvars.specs.Texts.{Text}
use Rattle.envvars.specs.Environment.{Environment, lookup, with_value}
use Rattle.envvars.specs.Changes.{NewValue, same_value}

-- an entry of a table
abbrev pub Slot : Type 0
Slot = String Global × Option (String Global)

-- the entry of a name in a table: no entry, or an entry with or without a value
abbrev pub slot : {S : Type 0} → IndexMap (String Global) (Option (String Global)) S → Text → Option (Option Text)
slot table name = option_map (option_map string_bytes) (get_by_text table name)

-- the names of the entries
abbrev pub names_of : List Slot → List Text
names_of entries = map (λ entry. string_bytes entry.0) entries

-- the entries as changes
abbrev pub new_values_of : List Slot → List NewValue
new_values_of entries = map (λ entry. (string_bytes entry.0, option_map string_bytes entry.1)) entries

-- whether a change gives its variable another value than it has
abbrev pub differs_from : Environment → NewValue → Bool
differs_from e c = not (same_value (lookup e c.0) c.1)

-- the environment with the entries written over it; of several entries of one name the first counts
abbrev pub written_over : Environment → List Slot → Environment
written_over e [] = e
written_over e (entry ∷ entries) =
    with_value (written_over e entries) (string_bytes entry.0) (option_map string_bytes entry.1)
