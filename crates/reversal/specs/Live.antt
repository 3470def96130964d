-- What the live modules make of one variable, and the loaded list with them (own). A live module is one that was loaded
-- since the start, and not unloaded; the list of them has the newest first.
use Rattle.std.specs.Prelude.{ℕ, ◌+◌, List, [], ◌∷◌, ◌++◌, bytes_eq, count_by, if◌then◌else◌, Option, Some, None}
use Rattle.std.specs.Option.{option_or}
use Rattle.envvars.specs.Texts.{Text}
use Rattle.envstate.specs.loaded_list.Loaded.{Entry}
use Rattle.modulefile.specs.Records.{Record, Set, Unset, Push, added_elements}
use Rattle.modulefile.specs.Moves.{Module, entry_of}

-- What a record sets the variable to, a value or unset, until it is unloaded; none where it does neither. (An unset
-- without a value is of an absent variable.)
abbrev pub set_by : Text → Record → Option (Option Text)
set_by v (Set var value) = if bytes_eq v var then Some (Some value) else None
set_by v (Unset var None) = None
set_by v (Unset var (Some value)) = if bytes_eq v var then Some None else None
set_by v r = None

-- what the records set the variable to, a value or unset: the last of them that does counts
abbrev pub last_set : Text → List Record → Option (Option Text)
last_set v [] = None
last_set v (r ∷ rs) = option_or (last_set v rs) (set_by v r)

-- what the live modules set the variable to: the newest of them that does counts
abbrev pub live_set : Text → List Module → Option (Option Text)
live_set v [] = None
live_set v (m ∷ live) = option_or (last_set v m.records) (live_set v live)

-- how often the element is among those that are added, if they are added to the variable
abbrev pub adds_among : Text → Text → Option (Text × List Text) → ℕ
adds_among v x None = 0
adds_among v x (Some added) = if bytes_eq v added.0 then count_by (bytes_eq x) added.1 else 0

-- how often a record adds the element to the variable
abbrev pub adds_by : Text → Text → Record → ℕ
adds_by v x r = adds_among v x (added_elements r)

-- how often records add the element to the variable
abbrev pub adds : Text → Text → List Record → ℕ
adds v x [] = 0
adds v x (r ∷ rs) = adds_by v x r + adds v x rs

-- how often the live modules add the element to the variable
abbrev pub live_adds : Text → List Module → Text → ℕ
live_adds v [] x = 0
live_adds v (m ∷ live) x = adds v x m.records + live_adds v live x

-- the value that a record pushes on the variable's stack
abbrev pub push_by : Text → Record → Option Text
push_by v (Push var value) = if bytes_eq v var then Some value else None
push_by v r = None

-- the last value that the records push on the variable's stack
abbrev pub last_push : Text → List Record → Option Text
last_push v [] = None
last_push v (r ∷ rs) = option_or (last_push v rs) (push_by v r)

-- the pushes, and one by this owner if it has a value
abbrev pub with_push : Text → Option Text → List (Text × Text) → List (Text × Text)
with_push owner None pushes = pushes
with_push owner (Some value) pushes = (owner, value) ∷ pushes

-- the pushes of the live modules on the variable's stack: of each module that pushes its name and its last value, the
-- newest module first
abbrev pub live_pushes : Text → List Module → List (Text × Text)
live_pushes v [] = []
live_pushes v (m ∷ live) = with_push m.name (last_push v m.records) (live_pushes v live)

-- the entries, and after them those of the live modules, the newest last
abbrev pub entries_over : List Entry → List Module → List Entry
entries_over entries [] = entries
entries_over entries (m ∷ live) = entries_over entries live ++ entry_of m ∷ []
