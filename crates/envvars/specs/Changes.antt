-- Changes of variables, what they make of an environment, and the difference of two environments (own).
use Rattle.std.specs.Prelude.{◌≡◌, Bool, true, false, List, [], ◌∷◌, map, bytes_eq, string_bytes, Option, Some, None}
use Rattle.std.specs.Prelude.{if◌then◌else◌}
use Rattle.std.specs.Ordering.{nat_cmp}
use Rattle.std.specs.Cmp.Lexicographic.{slice_cmp}
use Rattle.std.specs.List.Sorted.{IsStrictlySortedBy}
use Rattle.std.specs.Option.{option_map}
use Rattle.std.specs.declared.vec.Vec.{Vec}
use Rattle.std.specs.declared.alloc.Global.{Global}
use Rattle.envvars.specs.Texts.{Text}
use Rattle.envvars.specs.Environment.{Environment, lookup, with_value}
use Rattle.envvars.specs.declared.change.Change.{Change}

-- a name and its new value, or none where it is unset
abbrev pub NewValue : Type 0
NewValue = Text × Option Text

-- whether a variable has the same value, or is unset in both
abbrev pub same_value : Option Text → Option Text → Bool
same_value None None = true
same_value None (Some y) = false
same_value (Some x) None = false
same_value (Some x) (Some y) = bytes_eq x y

-- the new value that the first change of a name gives it, if a change names it
abbrev pub new_value_at : List NewValue → Text → Option (Option Text)
new_value_at [] q = None
new_value_at (c ∷ cs) q = if bytes_eq q c.0 then Some c.1 else new_value_at cs q

-- the new value, where it differs from the old one
abbrev pub difference : Option Text → Option Text → Option (Option Text)
difference old new = if same_value old new then None else Some new

-- the changes are the difference: each name whose value differs, once, in the order of bytes, with its new value
pub record AreChanges (old new : Environment) (cs : List NewValue) : Type 0 where
  pub ordered : IsStrictlySortedBy (slice_cmp nat_cmp) (map (λ c. c.0) cs)
  pub each : (q : Text) → new_value_at cs q ≡ difference (lookup old q) (lookup new q)

-- the environment with each change made, from the first to the last
abbrev pub applied : List NewValue → Environment → Environment
applied [] e = e
applied (c ∷ cs) e = applied cs (with_value e c.0 c.1)

-- the name and the new value of a change of the code
abbrev pub new_value_of : Change → NewValue
new_value_of c = (string_bytes c.name, option_map string_bytes c.value)

-- the names and the new values of a vector of changes
abbrev pub new_values_in : Vec Change Global → List NewValue
new_values_in v = map new_value_of v.items
