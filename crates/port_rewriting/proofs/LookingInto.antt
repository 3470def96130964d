-- A word that is read later is looked into.
use Rattle.std.proofs.Common.{◌≡◌, List, [], ◌∷◌, ◌++◌, Option, Some}
use Rattle.port_reading.specs.declared.places.ConstantWord.{ConstantWord}
use Rattle.port_reading.specs.declared.roles.Role.{Role}
use Rattle.port_reading.specs.declared.roles.Role.TheVariants as roles
use Rattle.port_rewriting.specs.LookingInto.{IsLookedInto}
use Rattle.port_rewriting.specs.declared.pieces.LeftPart.{LeftPart}
use Rattle.port_rewriting.specs.declared.scopes.Scope.{Scope}

pub looked : (role : Role) (w : ConstantWord) (queue after : List Scope) (s : Scope) (left : Option LeftPart) → after ≡ queue ++ s ∷ [] → s.text.now ≡ w.value.now
    → IsLookedInto role (Some w) queue after left
looked roles.Value w queue after s left e t = tt
looked roles.Body w queue after s left e t = (s, e, t)
looked roles.Caught w queue after s left e t = (s, e, t)
looked roles.Procedure w queue after s left e t = (s, e, t)
looked roles.Expression w queue after s left e t = (s, e, t)
looked roles.Patterns w queue after s left e t = (s, e, t)
