-- How loads and unloads use variables, the records that unloading undoes, and those after which the start can be back
-- (own).
use Rattle.std.specs.Prelude.{◌≡◌, ℕ, Bool, true, false, List, [], ◌∷◌, filter_map, if◌then◌else◌, Option, Some, None}
use Rattle.envvars.specs.Texts.{Text}
use Rattle.modulefile.specs.Records.{Record, Set, Unset, Push, Path, Conflict, Prereq, Whatis, adds_elements}

-- How a variable is used: each has one use.
pub data VariableUse : Type 0 where
  -- by no record
  Untouched : VariableUse
  -- set, or unset with a value, while a module is loaded; otherwise it has this value, or is unset
  Fixed : (value : Option Text) → VariableUse
  -- unset throughout: no module gives it a value, and the start has none
  Absent : VariableUse
  -- a path, parted by this delimiter
  Pathed : (delim : ℕ) → VariableUse
  -- a stack of pushed values
  Stacked : VariableUse

-- The kinds of records that unloading undoes: all except an unset without a value and a removal of elements.
abbrev pub is_reversible : Record → Bool
is_reversible (Unset var None) = false
is_reversible (Path edit delim var xs) = adds_elements edit
is_reversible r = true

-- After an unload the start can be back where the records are of these kinds: all but removals of elements. (An unset
-- without a value is not undone, but changes nothing where the variable is absent.)
abbrev pub can_return : Record → Bool
can_return (Path edit delim var xs) = adds_elements edit
can_return r = true

-- a variable, and a use of it
abbrev pub UsedVariable : Type 0
UsedVariable = Text × VariableUse

-- The variable that a record uses, and how: `setenv` sets it, `unsetenv` unsets the value that it gives, or without one
-- keeps it absent, and the others use it as a path with a delimiter, or as a stack. None where the record names no
-- variable, or removes elements.
abbrev pub use_by : Record → Option UsedVariable
use_by (Set var value) = Some (var, Fixed None)
use_by (Unset var None) = Some (var, Absent)
use_by (Unset var (Some value)) = Some (var, Fixed (Some value))
use_by (Push var value) = Some (var, Stacked)
use_by (Path edit delim var xs) = if adds_elements edit then Some (var, Pathed delim) else None
use_by (Conflict names) = None
use_by (Prereq names) = None
use_by (Whatis text) = None

-- the variable that a record keeps absent
abbrev pub absent_by : Record → Option Text
absent_by (Unset var None) = Some var
absent_by r = None

-- the variables that records keep absent, in their order
abbrev pub absent_in : List Record → List Text
absent_in rs = filter_map absent_by rs

-- this use of a variable, if it is one, is the use that the variable has
abbrev pub IsUsedSo : (Text → VariableUse) → Option UsedVariable → Type 0
IsUsedSo uses None = Unit {0}
IsUsedSo uses (Some p) = uses p.0 ≡ p.1

-- The record follows the use of the variable that it uses. Of removals of elements nothing is asked here.
abbrev pub FollowsUse : (Text → VariableUse) → Record → Type 0
FollowsUse uses r = IsUsedSo uses (use_by r)

-- Each record uses its variable as the variable is used by all modules.
abbrev pub AllFollowUses : (Text → VariableUse) → List Record → Type 0
AllFollowUses uses [] = Unit {0}
AllFollowUses uses (r ∷ rs) = FollowsUse uses r × AllFollowUses uses rs

-- the record is of a kind after which the start can be back, and follows the use of its variable
abbrev pub Suits : (Text → VariableUse) → Record → Type 0
Suits uses r = (can_return r ≡ true) × FollowsUse uses r

-- each record is of such a kind and follows the use of its variable
abbrev pub AllSuit : (Text → VariableUse) → List Record → Type 0
AllSuit uses [] = Unit {0}
AllSuit uses (r ∷ rs) = Suits uses r × AllSuit uses rs
