-- Changes by hand between commands, and what the same change makes of the start (own).
use Rattle.std.specs.Prelude.{◌≡◌, ℕ, ◌-◌, Bool, true, not, ◌&&◌, List, filter, nat_lt, Option, Some, None}
use Rattle.envvars.specs.Texts.{Text, has}
use Rattle.envvars.specs.Names.{stack_name}
use Rattle.envvars.specs.Environment.{Environment, lookup, with_value}
use Rattle.envstate.specs.paths.Paths.{PathState}
use Rattle.envstate.specs.paths.PathVariables.{path_in, with_path}
use Rattle.envstate.specs.paths.PathOrder.{IsPathInOrder}
use Rattle.envstate.specs.Roles.{VariableRole, role_of}
use Rattle.envstate.specs.Roles.VariableRole.{Variable, Counters, Stack, LoadedNames, LoadedFiles, LoadedConflicts}
use Rattle.envstate.specs.Roles.VariableRole.{LoadedPrereqs, Other}
use Rattle.modulefile.specs.Moves.{Module}
use Rattle.reversal.specs.VariableUses.{VariableUse, Untouched, Fixed, Absent, Pathed, Stacked}
use Rattle.reversal.specs.Live.{live_adds}

-- a change by hand: a variable is given this value, or is unset
pub record HandChange : Type 0 where
  pub variable : Text
  pub value : Option Text

-- the environment after it
abbrev pub changed : HandChange → Environment → Environment
changed c e = with_value e c.variable c.value

-- How modules use the variable with this role. A name that no modulefile may edit, and that holds no counters, no stack
-- and nothing of the loaded modules, is used by none. Those that do hold these are the tool's own, and have no use here.
abbrev pub use_of_role : (Text → VariableUse) → VariableRole → Option VariableUse
use_of_role uses (Variable v) = Some (uses v)
use_of_role uses (Counters v) = None
use_of_role uses (Stack v) = None
use_of_role uses LoadedNames = None
use_of_role uses LoadedFiles = None
use_of_role uses LoadedConflicts = None
use_of_role uses LoadedPrereqs = None
use_of_role uses Other = Some Untouched

-- The path is in order with the counters that stand, and has each element that a live module has added.
pub record KeepsLiveElements (live : List Module) (e : Environment) (v : Text) (delim : ℕ) : Type 0 where
  pub order : IsPathInOrder e v delim
  pub there : (x : Text) → nat_lt 0 (live_adds v live x) ≡ true → has x (path_in e v delim).elements ≡ true

-- Hands may make this change while these modules are live: any change of a variable that no module uses; a change of a
-- path that keeps the elements of live modules; any of a variable that modules push on while it has no stack. None of a
-- variable that modules set or unset, or keep absent, and none of the tool's own.
abbrev pub MayChange : Option VariableUse → List Module → Environment → HandChange → Type 0
MayChange None live e c = ⊥
MayChange (Some Untouched) live e c = Unit {0}
MayChange (Some (Fixed value)) live e c = ⊥
MayChange (Some Absent) live e c = ⊥
MayChange (Some (Pathed delim)) live e c = KeepsLiveElements live (changed c e) c.variable delim
MayChange (Some Stacked) live e c = lookup e (stack_name c.variable) ≡ None

-- a change by hand that may be made in the environment, by the use of its variable
abbrev pub IsHandChange : (Text → VariableUse) → List Module → Environment → HandChange → Type 0
IsHandChange uses live e c = MayChange (use_of_role uses (role_of c.variable)) live e c

-- an element that live modules have added, and that the start doesn't have
abbrev pub is_of_live_alone : PathState → (Text → ℕ) → Text → Bool
is_of_live_alone start live x = nat_lt 0 (live x) && not (has x start.elements)

-- A path without what live modules have added to that of the start: without the elements that they alone have added,
-- and each counter less what they have added to it.
abbrev pub without_live_adds : PathState → (Text → ℕ) → PathState → PathState
without_live_adds start live now =
    record {
      elements = filter (λ x. not (is_of_live_alone start live x)) now.elements;
      counter = λ x. now.counter x - live x;
    }

-- What the change makes of the start: a path is that of the changed environment without what live modules have added,
-- and any other variable has the same value.
abbrev pub start_by_use : Option VariableUse → List Module → Environment → Environment → HandChange → Environment
start_by_use None live start e c = changed c start
start_by_use (Some Untouched) live start e c = changed c start
start_by_use (Some (Fixed value)) live start e c = changed c start
start_by_use (Some Absent) live start e c = changed c start
start_by_use (Some (Pathed delim)) live start e c =
    with_path start c.variable delim
    (without_live_adds (path_in start c.variable delim) (live_adds c.variable live) (path_in (changed c e) c.variable delim))
start_by_use (Some Stacked) live start e c = changed c start

-- The start after a change by hand: what the same change makes of it without the modules that are live.
abbrev pub start_after : (Text → VariableUse) → List Module → Environment → Environment → HandChange → Environment
start_after uses live start e c = start_by_use (use_of_role uses (role_of c.variable)) live start e c
