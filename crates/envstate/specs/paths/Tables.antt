-- For the contracts of private functions: tables of counters, and the path state of a list of elements with such a
-- table.
use Rattle.std.specs.Prelude.{◌≡◌, ℕ, ◌+◌, ◌-◌, List, [], ◌∷◌, ◌++◌, filter, bytes_eq, nat_le, if◌then◌else◌, Option}
use Rattle.std.specs.Prelude.{Some, None, is_some, unwrap_or, decimal}
use Rattle.std.specs.Borrow.{Bor}
use Rattle.indexmap.specs.IndexMap.{IndexMap, get_by}
use Rattle.envvars.specs.Texts.{Text, has}
use Rattle.envvars.specs.Fields.{colon}
use Rattle.envvars.specs.Escapes.{escaped}
use Rattle.std.specs.Option.{option_map}
use Rattle.envstate.specs.paths.Paths.{PathState}
use Rattle.envstate.specs.paths.PathTexts.{counter_in_pairs}

-- a table: a counter, or none, for each text
abbrev pub CounterTable : Type 0
CounterTable = Text → Option ℕ

-- the table of a map of the code
abbrev pub counter_in : {S : Type 0} → IndexMap (Bor Text) ℕ S → CounterTable
counter_in m x = get_by (λ k. bytes_eq x k.now) m

-- the counter in a table, 0 where there is none
abbrev pub count_in : CounterTable → Text → ℕ
count_in table x = unwrap_or (table x) 0

-- the counter 1 for each of the elements
abbrev pub one_for_each : List Text → CounterTable
one_for_each xs x = if has x xs then Some 1 else None

-- the table in which each counter is replaced by that of the first pair of its element, if there is one
abbrev pub overwritten_by : List (Text × Text) → CounterTable → CounterTable
overwritten_by pairs table x = option_map (λ k. unwrap_or (counter_in_pairs x pairs) k) (table x)

-- the path state of these elements with the counters of a table
abbrev pub state_from_table : List Text → CounterTable → PathState
state_from_table xs table = record { elements = xs; counter = λ x. count_in table x }

-- the table has a counter for each element of the list and for nothing else
abbrev pub HasCountersOf : List Text → CounterTable → Type 0
HasCountersOf xs table = (x : Text) → is_some (table x) ≡ has x xs

-- two tables have counters for the same elements
abbrev pub HaveSameElements : CounterTable → CounterTable → Type 0
HaveSameElements old new = (x : Text) → is_some (new x) ≡ is_some (old x)

-- the table with the counter of x one higher
abbrev pub raised : CounterTable → Text → CounterTable
raised table x y = if bytes_eq y x then Some (count_in table x + 1) else table y

-- the table with the counter of x one lower, and none at 0
abbrev pub lowered : CounterTable → Text → CounterTable
lowered table x y =
    if bytes_eq y x then (if nat_le (count_in table x) 1 then None else Some (count_in table x - 1)) else table y

-- the list with the element at its end, unless the table has it
abbrev pub with_new_element : List Text → CounterTable → Text → List Text
with_new_element xs table x = if is_some (table x) then xs else xs ++ x ∷ []

-- the elements that the table has a counter for
abbrev pub kept : List Text → CounterTable → List Text
kept xs table = filter (λ x. is_some (table x)) xs

-- the pair of an element and its counter as two fields, where the counter is two or more
abbrev pub pair_fields : (Text → ℕ) → Text → List Text
pair_fields count x = if nat_le 2 (count x) then escaped x ∷ decimal (count x) ∷ [] else []

-- a text to which a further field can be appended: with a colon at its end, unless it is empty
abbrev pub with_separator : Text → Text
with_separator [] = []
with_separator (b ∷ bs) = b ∷ bs ++ colon ∷ []

-- the text; none where it is empty
abbrev pub unless_empty : Text → Option Text
unless_empty [] = None
unless_empty (b ∷ bs) = Some (b ∷ bs)
