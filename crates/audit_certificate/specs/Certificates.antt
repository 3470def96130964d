-- The certificate of a list of modules, as those of a whole site (own): which of them are certified, and which starts
-- agree with what modules use.
use Rattle.std.specs.Prelude.{◌≡◌, ℕ, zero, suc, Bool, true, false, not, ◌&&◌, List, filter, length, Some, None}
use Rattle.std.specs.List.{list_any}
use Rattle.envvars.specs.Texts.{Text, has}
use Rattle.envvars.specs.Environment.{Environment, lookup}
use Rattle.envstate.specs.paths.PathOrder.{IsPathInOrder}
use Rattle.envstate.specs.stacks.StackVariables.{IsStackInOrder}
use Rattle.envstate.specs.loaded_list.Loaded.{Entry, names_of, loaded_in, AreLoadedInOrder}
use Rattle.modulefile.specs.Moves.{Module}
use Rattle.reversal.specs.VariableUses.{VariableUse, Untouched, Fixed, Absent, Pathed, Stacked}
use Rattle.reversal.specs.VariableUses.{UsedVariable}
use Rattle.audit_certificate.specs.RecordUses.{IsAmong}
use Rattle.audit_certificate.specs.Candidates.{Candidate, uses_of_all}
use Rattle.audit_certificate.specs.Steps.{IsConsistent, is_consistent}
use Rattle.audit_certificate.specs.Clashes.{is_other, Clash, do_clash}
use Rattle.audit_certificate.specs.Ranks.{comes_before}

-- The first comes before the second in the order of the list, and clashes with it.
abbrev pub clashes_before : List Candidate → Candidate → Candidate → Bool
clashes_before ms n m = comes_before ms n m && (is_other m n && do_clash m n)

-- A module of the list is selected: it clashes with none that is selected and comes before it. The number is how far
-- the question goes back, and no more modules can come before one than there are.
abbrev pub is_selected : ℕ → List Candidate → Candidate → Bool
is_selected zero ms m = true
is_selected (suc n) ms m = not (list_any (λ k. is_selected n ms k && clashes_before ms k m) ms)

-- the modules of the list that are selected
abbrev pub selected : List Candidate → List Candidate
selected ms = filter (is_selected (length ms) ms) ms

-- the certified modules of the list: the consistent ones that are selected
abbrev pub certified : List Candidate → List Candidate
certified ms = selected (filter is_consistent ms)

-- Beside these modules a module of the list can be certified: it is consistent, and clashes with none of them that
-- comes before it.
pub record HasPlace (ms certain : List Candidate) (m : Candidate) : Type 0 where
  pub listed : IsAmong m ms
  pub consistent : IsConsistent m
  pub no_clash : (n : Candidate) (v : Text) (x y : VariableUse) → IsAmong n certain
      → comes_before (filter is_consistent ms) n m ≡ true → is_other m n ≡ true → Clash m n v x y → ⊥

-- A module of the list is certified: it is consistent, and clashes with no certified one that comes before it.
abbrev pub IsCertified : List Candidate → Candidate → Type 0
IsCertified ms m = HasPlace ms (certified ms) m

-- The certificate of the list: what its certified modules use, and what they read.
abbrev pub certificate : List Candidate → List UsedVariable
certificate ms = uses_of_all (certified ms)

-- The start agrees with a use of a variable. One that is set is unset in it, one that is unset has its value, an absent
-- one is unset, a path is in order with its delimiter, and a stack is in order with the loaded modules as owners. Of a
-- variable that is read nothing is asked here.
abbrev pub AgreesWithUse : Environment → Text → VariableUse → Type 0
AgreesWithUse start v Untouched = Unit {0}
AgreesWithUse start v (Fixed value) = lookup start v ≡ value
AgreesWithUse start v Absent = lookup start v ≡ None
AgreesWithUse start v (Pathed delim) = IsPathInOrder start v delim
AgreesWithUse start v Stacked =
    (entries : List Entry) → loaded_in start ≡ Some entries → IsStackInOrder (names_of entries) start v

-- The start agrees with uses, as those of a module or of a whole certificate: its loaded list is in order, and it
-- agrees with each use.
pub record AgreesWith (ps : List UsedVariable) (start : Environment) : Type 0 where
  pub loaded : AreLoadedInOrder start
  pub uses : (v : Text) (x : VariableUse) → IsAmong (v, x) ps → AgreesWithUse start v x

-- no module of its name is loaded in the environment
abbrev pub IsNotLoaded : Module → Environment → Type 0
IsNotLoaded m e = (entries : List Entry) → loaded_in e ≡ Some entries → has m.name (names_of entries) ≡ false
