-- Where a command may begin (own): a word that is evaluated is read later, or what it is in is left.
use Rattle.std.specs.Prelude.{◌≡◌, IsSome, List, [], ◌∷◌, ◌++◌, Option, Some, None}
use Rattle.port_reading.specs.declared.places.ConstantWord.{ConstantWord}
use Rattle.port_reading.specs.declared.roles.Role.{Role}
use Rattle.port_reading.specs.declared.roles.Role.TheVariants as roles
use Rattle.port_rewriting.specs.declared.pieces.LeftPart.{LeftPart}
use Rattle.port_rewriting.specs.declared.scopes.Scope.{Scope}

-- of a word with a known text that text is read later, and without one its command is left
abbrev pub IsEvaluated : Option ConstantWord → List Scope → List Scope → Option LeftPart → Type 0
IsEvaluated None queue after left = IsSome left
IsEvaluated (Some word) queue after left = (s : Scope) × (after ≡ queue ++ s ∷ []) × (s.text.now ≡ word.value.now)

-- a word with this role is looked into
abbrev pub IsLookedInto : Role → Option ConstantWord → List Scope → List Scope → Option LeftPart → Type 0
IsLookedInto roles.Value word queue after left = Unit {0}
IsLookedInto roles.Expression None queue after left = Unit {0}
IsLookedInto role word queue after left = IsEvaluated word queue after left
