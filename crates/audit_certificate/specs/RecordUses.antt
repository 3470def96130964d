-- How the records of modules use variables (own).
use Rattle.std.specs.Prelude.{◌≡◌, ◌⊎◌, Bool, true, false, not, ◌||◌, ◌==◌, List, [], ◌∷◌, filter_map, flat_map}
use Rattle.std.specs.Prelude.{bytes_eq, codes, if◌then◌else◌}
use Rattle.std.specs.Option.{option_eq}
use Rattle.envvars.specs.Texts.{Text}
use Rattle.modulefile.specs.Records.{Record}
use Rattle.modulefile.specs.Moves.{Module}
use Rattle.reversal.specs.VariableUses.{VariableUse, Untouched, Fixed, Absent, Pathed, Stacked}
use Rattle.reversal.specs.VariableUses.{UsedVariable, use_by}

-- what the records use
abbrev pub used_by : List Record → List UsedVariable
used_by rs = filter_map use_by rs

-- what the modules use
abbrev pub used_by_modules : List Module → List UsedVariable
used_by_modules ms = flat_map (λ m. used_by m.records) ms

-- it is one of the list
abbrev pub IsAmong : {X : Type 0} → X → List X → Type 0
IsAmong x [] = ⊥
IsAmong x (y ∷ ys) = (x ≡ y) ⊎ IsAmong x ys

-- some record uses the variable so
abbrev pub Uses : List Record → Text → VariableUse → Type 0
Uses rs v x = IsAmong (v, x) (used_by rs)

-- the variable of the directories in which modules are
abbrev pub modulepath : Text
modulepath = codes "MODULEPATH"

-- whether two uses are one, as a test
abbrev pub same_use : VariableUse → VariableUse → Bool
same_use Untouched Untouched = true
same_use (Fixed x) (Fixed y) = option_eq bytes_eq x y
same_use Absent Absent = true
same_use (Pathed d) (Pathed k) = d == k
same_use Stacked Stacked = true
same_use x y = false

-- the use is a read, and no record's
abbrev pub is_read : VariableUse → Bool
is_read Untouched = true
is_read (Fixed x) = false
is_read Absent = false
is_read (Pathed d) = false
is_read Stacked = false

-- the first is a read, or they are of two variables, or are one use
abbrev pub is_same_use : UsedVariable → UsedVariable → Bool
is_same_use p q = is_read p.1 || (not (bytes_eq p.0 q.0) || same_use p.1 q.1)

-- The use of a variable by the first of the pairs that has it; untouched where none has.
abbrev pub first_use : Text → List UsedVariable → VariableUse
first_use v [] = Untouched
first_use v (p ∷ ps) = if bytes_eq v p.0 then p.1 else first_use v ps

-- how the modules use each variable: as the first record of one of them does that names it
abbrev pub uses_by : List Module → Text → VariableUse
uses_by ms v = first_use v (used_by_modules ms)
