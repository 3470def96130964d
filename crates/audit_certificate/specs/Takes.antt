-- The users in the table of modules that are taken, for this crate's own contracts (own).
use Rattle.std.specs.Prelude.{List}
use Rattle.envvars.specs.Texts.{Text}
use Rattle.audit_certificate.specs.Candidates.{Candidate}
use Rattle.audit_certificate.specs.Users.{ModuleUse, AreUsersOf, uses_of_modules}
use Rattle.audit_certificate.specs.RankedModule.{with_next}

-- the users of each variable of some modules that are taken, and then those of the modules with the next
abbrev pub TakesNext : (Text → List ModuleUse) → (Text → List ModuleUse) → Candidate → Type 0
TakesNext old new m =
    (ms : List Candidate) → AreUsersOf old (uses_of_modules ms) → AreUsersOf new (uses_of_modules (with_next ms m))
