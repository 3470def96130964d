-- Why the premises are needed (own): what loading and then unloading a module loses where one of them doesn't hold.
use Rattle.std.specs.Prelude.{◌≡◌, ◌≢◌, List, [], ◌∷◌, Some, None, Ok}
use Rattle.envvars.specs.Texts.{Text}
use Rattle.envvars.specs.Environment.{Environment, lookup}
use Rattle.modulefile.specs.Records.{Record, Set, Unset}
use Rattle.modulefile.specs.Effects.{load, unload, effects}

-- the records are loaded, and then unloaded
abbrev pub ThereAndBack : Text → List Record → Environment → Environment → Type 0
ThereAndBack owner rs old new = (mid : Environment) × (effects load owner rs old ≡ Ok mid)
    × (effects unload owner rs mid ≡ Ok new)

-- A set of a variable that had a value.
abbrev pub SetLosesValue : Type 0
SetLosesValue =
    (owner v value before : Text) (old new : Environment) → lookup old v ≡ Some before
    → ThereAndBack owner (Set v value ∷ []) old new → new ≢ old

-- An unset without a value of a variable that had one.
abbrev pub UnsetLosesValue : Type 0
UnsetLosesValue =
    (owner v before : Text) (old new : Environment) → lookup old v ≡ Some before
    → ThereAndBack owner (Unset v None ∷ []) old new → new ≢ old

-- An unset with a value of a variable that had another one, or none.
abbrev pub UnsetGivesAnother : Type 0
UnsetGivesAnother =
    (owner v value : Text) (old new : Environment) → lookup old v ≢ Some value
    → ThereAndBack owner (Unset v (Some value) ∷ []) old new → new ≢ old
