-- An environment in order, a start, and a start with live modules over it (own).
use Rattle.std.specs.Prelude.{◌≡◌, ℕ, true, List, [], ◌∷◌, Option, Some, None, unwrap_or}
use Rattle.envvars.specs.Texts.{Text}
use Rattle.envvars.specs.Names.{share_name, stack_name}
use Rattle.envvars.specs.Environment.{Environment, lookup}
use Rattle.envstate.specs.paths.PathVariables.{path_in}
use Rattle.envstate.specs.paths.PathOrder.{IsPathInOrder}
use Rattle.envstate.specs.paths.PathRuns as path_runs
use Rattle.envstate.specs.stacks.Stacks.{StackState}
use Rattle.envstate.specs.stacks.StackRuns.{start_with_pushes}
use Rattle.envstate.specs.stacks.StackVariables.{stack_in, IsStackInOrder}
use Rattle.envstate.specs.loaded_list.Loaded.{Entry, names_of, loaded_in, AreLoadedInOrder}
use Rattle.envstate.specs.Roles.{role_of, is_editable}
use Rattle.envstate.specs.Roles.VariableRole.{Other}
use Rattle.modulefile.specs.Moves.{Module}
use Rattle.reversal.specs.VariableUses.{VariableUse, Untouched, Fixed, Absent, Pathed, Stacked}
use Rattle.reversal.specs.Live.{live_set, live_adds, live_pushes, entries_over}

-- In order, by the uses of variables: the loaded list, each path by its delimiter, and each stack, whose owners are
-- loaded.
pub record IsInOrder (uses : Text → VariableUse) (e : Environment) : Type 0 where
  pub loaded : AreLoadedInOrder e
  pub paths : (v : Text) (delim : ℕ) → is_editable v ≡ true → uses v ≡ Pathed delim → IsPathInOrder e v delim
  pub stacks : (v : Text) (entries : List Entry) → is_editable v ≡ true → uses v ≡ Stacked → loaded_in e ≡ Some entries
      → IsStackInOrder (names_of entries) e v

-- A start: it is in order, each fixed variable has the value that unloads give back, or is unset where they unset it,
-- and each absent variable is unset.
pub record IsStart (uses : Text → VariableUse) (start : Environment) : Type 0 where
  pub order : IsInOrder uses start
  pub fixed : (v : Text) (value : Option Text) → is_editable v ≡ true → uses v ≡ Fixed value → lookup start v ≡ value
  pub absent : (v : Text) → is_editable v ≡ true → uses v ≡ Absent → lookup start v ≡ None

-- the variable has this value or is unset, and its counters and its stack are as in the start
pub record HasValue (start e : Environment) (v : Text) (set : Option Text) : Type 0 where
  pub value : lookup e v ≡ set
  pub counters : lookup e (share_name v) ≡ lookup start (share_name v)
  pub stack : lookup e (stack_name v) ≡ lookup start (stack_name v)

-- the path has these adds over that of the start, and the variable's stack is as in the start
pub record HasPath (start e : Environment) (v : Text) (delim : ℕ) (live : Text → ℕ) : Type 0 where
  pub state : path_runs.IsPathStartWith (path_in start v delim) live (path_in e v delim)
  pub stack : lookup e (stack_name v) ≡ lookup start (stack_name v)

-- the same pushes in any order
pub data IsPermutation : List (Text × Text) → List (Text × Text) → Type 0 where
  none : IsPermutation [] []
  next : {p : Text × Text} {ps qs : List (Text × Text)} → IsPermutation ps qs → IsPermutation (p ∷ ps) (p ∷ qs)
  swap : {p q : Text × Text} {ps : List (Text × Text)} → IsPermutation (p ∷ q ∷ ps) (q ∷ p ∷ ps)
  transitive : {ps qs rs : List (Text × Text)} → IsPermutation ps qs → IsPermutation qs rs → IsPermutation ps rs

-- these pushes are on the stack of the start, in any order, and the variable's counters are as in the start
pub record HasStack (start e : Environment) (v : Text) (live : List (Text × Text)) : Type 0 where
  pub base : StackState
  pub found : stack_in start v ≡ Some base
  pub pushes : List (Text × Text)
  pub order : IsPermutation pushes live
  pub state : stack_in e v ≡ Some (start_with_pushes base pushes)
  pub counters : lookup e (share_name v) ≡ lookup start (share_name v)

-- one variable, by its use
abbrev pub HasVariable : VariableUse → Environment → Text → List Module → Environment → Type 0
HasVariable Untouched start v live e = HasValue start e v (lookup start v)
HasVariable (Fixed value) start v live e = HasValue start e v (unwrap_or (live_set v live) (lookup start v))
HasVariable Absent start v live e = HasValue start e v (lookup start v)
HasVariable (Pathed delim) start v live e = HasPath start e v delim (live_adds v live)
HasVariable Stacked start v live e = HasStack start e v (live_pushes v live)

-- The environment is the start with these live modules over it. The loaded list has the entries of the start and then
-- theirs. Each variable that modules may edit is as its use has it. Each other variable is as in the start.
pub record IsStartWith (uses : Text → VariableUse) (start : Environment) (live : List Module)
    (e : Environment) : Type 0 where
  pub entries : (xs : List Entry) → loaded_in start ≡ Some xs → loaded_in e ≡ Some (entries_over xs live)
  pub variables : (v : Text) → is_editable v ≡ true → HasVariable (uses v) start v live e
  pub others : (name : Text) → role_of name ≡ Other → lookup e name ≡ lookup start name
