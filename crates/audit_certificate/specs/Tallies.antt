-- Counts of the users of variables, in the code and in the definitions (own).
use Rattle.std.specs.Prelude.{◌≡◌, ℕ, ◌+◌, Bool, true, not, ◌&&◌, List, ◌++◌, bytes_eq, if◌then◌else◌, Option, None}
use Rattle.std.specs.List.{count_by}
use Rattle.std.specs.Option.{option_map, option_map_or, option_eq}
use Rattle.envvars.specs.Texts.{Text}
use Rattle.indexmap.specs.IndexMap.{get_by}
use Rattle.reversal.specs.VariableUses.{VariableUse}
use Rattle.audit_certificate.specs.RecordUses.{same_use}
use Rattle.audit_certificate.specs.Clashes.{are_compatible}
use Rattle.audit_certificate.specs.Users.{ModuleUse, first_part}
use Rattle.audit_certificate.specs.Ranks.{excludes_versions}
use Rattle.audit_certificate.specs.UseKeys.{key_view}
use Rattle.audit_certificate.specs.declared.tally.UsageCount.{UsageCount as CodeCounted}
use Rattle.audit_certificate.specs.declared.tally.Tally.{Tally}

-- What is counted: the users of a variable, and of these those alone with one way of using it, or with one first part
-- of their names.
pub record UsageCount : Type 0 where
  pub variable : Text
  pub used : Option VariableUse
  pub root : Option Text

-- the user is one of them
abbrev pub is_counted : UsageCount → ModuleUse → Bool
is_counted c u =
    bytes_eq c.variable u.used.0
    && (option_map_or (λ x. same_use x u.used.1) c.used true
    && option_map_or (λ r. bytes_eq r (first_part u.owner.name)) c.root true)

-- what the code counts
abbrev pub counted_view : CodeCounted → UsageCount
counted_view c =
    record {
      variable = c.variable.now;
      used = option_map key_view c.used;
      root = option_map (λ r. r.now) c.root;
    }

-- the same is counted
abbrev pub same_views : UsageCount → UsageCount → Bool
same_views c d =
    bytes_eq c.variable d.variable && (option_eq same_use c.used d.used && option_eq bytes_eq c.root d.root)

-- the code counts the same
abbrev pub same_counted : CodeCounted → CodeCounted → Bool
same_counted c d = same_views (counted_view c) (counted_view d)

-- how many there are, by a tally
abbrev pub counted_at : Tally → CodeCounted → ℕ
counted_at tally c = option_map_or (λ n. n) (get_by (same_counted c) tally.counts) 0

-- the tally has the numbers of these users
abbrev pub HasCounts : Tally → List ModuleUse → Type 0
HasCounts tally users = (c : CodeCounted) → counted_at tally c ≡ count_by (is_counted (counted_view c)) users

-- the tally has the numbers of all users of whom another has those, and of these more
abbrev pub CountsMore : Tally → Tally → List ModuleUse → Type 0
CountsMore old new more = (users : List ModuleUse) → HasCounts old users → HasCounts new (users ++ more)

-- one more of these
abbrev pub CountsOne : Tally → Tally → CodeCounted → Type 0
CountsOne old new k = (c : CodeCounted) → counted_at new c ≡ counted_at old c + (if same_counted k c then 1 else 0)

-- the user uses the variable, in this way where one is given
abbrev pub is_user : Text → Option VariableUse → ModuleUse → Bool
is_user v used y = is_counted (record { variable = v; used = used; root = None }) y

-- it does, and the first part of its name is excluded
abbrev pub is_excluded_user : Text → Option VariableUse → (Text → Bool) → ModuleUse → Bool
is_excluded_user v used excluded y = is_user v used y && excluded (first_part y.owner.name)

-- The second user's use of a variable isn't compatible with that of the first, which doesn't exclude all its versions.
abbrev pub is_open_competitor : ModuleUse → ModuleUse → Bool
is_open_competitor x y =
    bytes_eq x.used.0 y.used.0 && (not (are_compatible x.used.1 y.used.1) && not (excludes_versions x.owner y.owner))

-- it does, and the first part of its name isn't excluded
abbrev pub is_other_user : Text → Option VariableUse → (Text → Bool) → ModuleUse → Bool
is_other_user v used excluded y = is_user v used y && not (excluded (first_part y.owner.name))
