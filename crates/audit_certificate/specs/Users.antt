-- The users of a variable: modules with a use of it, and which of them clash (own).
pub use Rattle.audit_certificate.specs.FirstParts.{first_part}
use Rattle.std.specs.Prelude.{◌≡◌, ◌⊎◌, Bool, true, false, ◌&&◌, List, map, flat_map, ◌++◌, bytes_eq, Option, Some}
use Rattle.std.specs.Prelude.{None}
use Rattle.std.specs.List.{list_any}
use Rattle.envvars.specs.Texts.{Text}
use Rattle.reversal.specs.VariableUses.{UsedVariable}
use Rattle.audit_certificate.specs.RecordUses.{IsAmong}
use Rattle.audit_certificate.specs.Candidates.{Candidate, uses_of}
use Rattle.audit_certificate.specs.EachOnce.{each_once}
use Rattle.audit_certificate.specs.Clashes.{is_other, are_mutually_exclusive, uses_clash}

-- a module, and one of its uses of a variable
pub record ModuleUse : Type 0 where
  pub owner : Candidate
  pub used : UsedVariable

-- what the module uses, each use once
abbrev pub uses_of_module : Candidate → List ModuleUse
uses_of_module m = map (λ p. record { owner = m; used = p }) (each_once (uses_of m))

-- what the modules use, each of them each use once
abbrev pub uses_of_modules : List Candidate → List ModuleUse
uses_of_modules ms = flat_map uses_of_module ms

-- two users of one variable are of two modules and clash
abbrev pub do_users_clash : ModuleUse → ModuleUse → Bool
do_users_clash x y =
    is_other x.owner y.owner
    && uses_clash (are_mutually_exclusive x.owner y.owner x.used.1 y.used.1) x.used.1 y.used.1

-- The answer names one of these users that clashes with the first, or none of them does.
abbrev pub IsClashAmong : ModuleUse → List ModuleUse → Option ModuleUse → Type 0
IsClashAmong x ys None = list_any (do_users_clash x) ys ≡ false
IsClashAmong x ys (Some y) = IsAmong y ys × (do_users_clash x y ≡ true)

-- The second list has the members of the first, and this one.
pub record HasOneMore (xs ys : List ModuleUse) (x : ModuleUse) : Type 0 where
  pub kept : (y : ModuleUse) → IsAmong y xs → IsAmong y ys
  pub added : IsAmong x ys
  pub only : (y : ModuleUse) → IsAmong y ys → IsAmong y xs ⊎ (y ≡ x)

-- the users of each variable, and then one more of its own variable
pub record Enters (old new : Text → List ModuleUse) (x : ModuleUse) : Type 0 where
  pub own : HasOneMore (old x.used.0) (new x.used.0) x
  pub others : (v : Text) → bytes_eq v x.used.0 ≡ false → new v ≡ old v

-- These are the users of each variable.
pub record AreUsersOf (users : Text → List ModuleUse) (all : List ModuleUse) : Type 0 where
  pub complete : (x : ModuleUse) → IsAmong x all → IsAmong x (users x.used.0)
  pub sound : (v : Text) (x : ModuleUse) → IsAmong x (users v) → IsAmong x all × (x.used.0 ≡ v)

-- The users of each variable in a table, and then these more as well.
abbrev pub EntersAll : (Text → List ModuleUse) → (Text → List ModuleUse) → List ModuleUse → Type 0
EntersAll old new xs = (all : List ModuleUse) → AreUsersOf old all → AreUsersOf new (all ++ xs)

-- What is found of some users: one of them with another user of its variable, with which it clashes; or none clashes.
abbrev pub IsFoundOf : (Text → List ModuleUse) → List ModuleUse → Option (ModuleUse × ModuleUse) → Type 0
IsFoundOf users xs None = list_any (λ x. list_any (do_users_clash x) (users x.used.0)) xs ≡ false
IsFoundOf users xs (Some p) = IsAmong p.0 xs × IsAmong p.1 (users p.0.used.0) × (do_users_clash p.0 p.1 ≡ true)
