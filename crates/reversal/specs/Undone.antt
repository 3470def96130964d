-- What an unload looks at of the records of a module (own; by what modulefile(5) says of each command in unloads).
use Rattle.std.specs.Prelude.{◌≡◌, List, [], filter_map, if◌then◌else◌, Option, Some, None}
use Rattle.modulefile.specs.Records.{Record, Set, Unset, Push, Path, adds_elements}
use Rattle.modulefile.specs.declared.records.PathEdit.TheVariants.{Front}

-- A record as its unload sees it: a variable set or pushed, of whatever value; elements added to a path, at whatever
-- end. There is none where an unload does nothing.
abbrev pub undone_as : Record → Option Record
undone_as (Set var value) = Some (Set var [])
undone_as (Unset var (Some value)) = Some (Unset var (Some value))
undone_as (Push var value) = Some (Push var [])
undone_as (Path edit delim var xs) = if adds_elements edit then Some (Path Front delim var xs) else None
undone_as r = None

-- what an unload sees of the records, in their order
abbrev pub undo_of : List Record → List Record
undo_of rs = filter_map undone_as rs

-- An unload sees the same in both lists, in the same order: so an unload by the one does what an unload by the other
-- does.
abbrev pub UndoEquivalently : List Record → List Record → Type 0
UndoEquivalently rs ss = undo_of rs ≡ undo_of ss
