-- The order in which the modules of a list are certified (own): those first that are compatible with most others.
use Rattle.std.specs.Prelude.{ℕ, Bool, not, ◌&&◌, ◌||◌, List, bytes_eq}
use Rattle.std.specs.List.{count_by, sum_by}
use Rattle.std.specs.declared.cmp.Ordering.{Ordering}
use Rattle.std.specs.Ordering.{is_lt, nat_cmp, on, then_cmp}
use Rattle.std.specs.Cmp.Lexicographic.{slice_cmp}
use Rattle.envvars.specs.Texts.{Text, has}
use Rattle.modulefile.specs.Records.{conflict_names}
use Rattle.reversal.specs.VariableUses.{VariableUse}
use Rattle.audit_certificate.specs.RecordUses.{same_use, is_read}
use Rattle.audit_certificate.specs.Candidates.{Candidate}
use Rattle.audit_certificate.specs.Clashes.{are_compatible}
use Rattle.audit_certificate.specs.Users.{ModuleUse, first_part, uses_of_module, uses_of_modules}

-- how many of the modules use the variable so
abbrev pub users_of_one_use : List Candidate → Text → VariableUse → ℕ
users_of_one_use ms v x = count_by (λ u. bytes_eq v u.used.0 && same_use x u.used.1) (uses_of_modules ms)

-- A conflict of the first module names the first part of the second's name, and so means all its versions.
abbrev pub excludes_versions : Candidate → Candidate → Bool
excludes_versions m n = has (first_part n.name) (conflict_names m.records)

-- The second user is a competitor of the first: it uses the variable in a way that isn't compatible with that of the
-- first, which reads the variable, or doesn't exclude all its versions.
abbrev pub is_competitor : ModuleUse → ModuleUse → Bool
is_competitor x y =
    bytes_eq x.used.0 y.used.0
    && (not (are_compatible x.used.1 y.used.1)
    && (is_read x.used.1 || not (excludes_versions x.owner y.owner)))

-- How many competitors a module has among these, in all its variables.
abbrev pub competitors : List Candidate → Candidate → ℕ
competitors ms m = sum_by (λ x. count_by (is_competitor x) (uses_of_modules ms)) (uses_of_module m)

-- The order: by how many competitors they have, and then by the bytes of their names and of their paths.
abbrev pub rank_order : List Candidate → Candidate → Candidate → Ordering
rank_order ms =
    then_cmp (on (competitors ms) nat_cmp)
    (then_cmp (on (λ m. m.name) (slice_cmp nat_cmp)) (on (λ m. m.path) (slice_cmp nat_cmp)))

-- the first comes before the second
abbrev pub comes_before : List Candidate → Candidate → Candidate → Bool
comes_before ms m n = is_lt (rank_order ms m n)
