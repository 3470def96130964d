-- Sites of which one has all that another has, and may have more (own).
use Rattle.std.specs.Prelude.{◌≡◌, Some}
use Rattle.envvars.specs.Texts.{Text}
use Rattle.envvars.specs.Environment.{Environment}
use Rattle.tclrules.specs.declared.limits.Limits.{Limits}
use Rattle.filetree.specs.Agreement.{Files, Listings}
use Rattle.search.specs.Candidates.{HasEntry}
use Rattle.audit_certificate.specs.Candidates.{Candidate}
use Rattle.audit_laws.specs.site.Sites.{site_of, IsDeterministicModule}

-- The second pair of maps has each file of the first, with the same bytes, and each entry of its directories. It may have
-- more, such as what another user can read, or what was added since.
pub record IsExtendedBy (files : Files) (listings : Listings) (more_files : Files) (more_listings : Listings) : Type 0
  where
    pub files_stay : (path bytes : Text) → files path ≡ Some bytes → more_files path ≡ Some bytes
    pub entries_stay : (path name : Text) → HasEntry listings path name → HasEntry more_listings path name

-- A deterministic module of a site is one of each site that extends it, with its records and its reads.
abbrev pub DeterministicModulesStay : Type 0
DeterministicModulesStay =
    (limits : Limits) (env : Environment) (files : Files) (listings : Listings) (more_files : Files)
    (more_listings : Listings) (m : Candidate)
    → IsExtendedBy files listings more_files more_listings → IsDeterministicModule (site_of limits env files listings) m
    → IsDeterministicModule (site_of limits env more_files more_listings) m
