-- Where a whole audit looks (own): the paths of the files and directories that it reads or lists on its way. A failure of
-- the device at another path neither ends it nor hides anything.
use Rattle.std.specs.Prelude.{◌≡◌, ◌⊎◌, ℕ, ◌<◌, ◌≤◌, Bool, true, false, List, [], ◌∷◌, ◌++◌, Some, IsSome, string_bytes}
use Rattle.envvars.specs.Texts.{Text}
use Rattle.envvars.specs.Environment.{Environment}
use Rattle.filetree.specs.Agreement.{FailedAt, Files, InEachPair, Listings, ReadsOn}
use Rattle.filetree.specs.hiding.Hidden.{without}
use Rattle.modules.specs.Verdicts.{in_sh}
use Rattle.audit_certificate.specs.RecordUses.{IsAmong}
use Rattle.audit_laws.specs.site.Sites.{SiteModule, IsOfSite, site_of}
use Rattle.audit_site.specs.declared.auditing.AuditedModule.{AuditedModule}
use Rattle.audit_dry_runs.specs.DryRuns.{DryRunLooksAt}
use Rattle.audit_site.specs.Looked as audits
use Rattle.modaudit.specs.command.Arguments.{Wanted, wanted_of}
use Rattle.modulecmd.specs.Command.{standard}
use Rattle.modaudit.specs.command.Audits.{is_no_element, judged_env}

-- each of the directories is there, and MODULEPATH can hold its path
abbrev pub AreThere : Listings → List Text → Type 0
AreThere listings [] = Unit {0}
AreThere listings (dir ∷ dirs) = (is_no_element dir ≡ false) × IsSome (listings dir) × AreThere listings dirs

-- the path is that of one of these directories, and those before it are there
pub record DirectoriesLookAt (listings : Listings) (dirs : List Text) (at : Text) : Type 0 where
  pub before : List Text
  pub after : List Text
  pub order : dirs ≡ before ++ at ∷ after
  pub there : AreThere listings before
  pub is_element : is_no_element at ≡ false

-- the paths for a site that is judged in this environment: those of the directories that are named; and where each of
-- them is there, those at which the audit looks
abbrev pub SiteLooksAt : Environment → List Text → Files → Listings → Text → Type 0
SiteLooksAt judged dirs files listings at =
    DirectoriesLookAt listings dirs at
    ⊎ (AreThere listings dirs × audits.AuditLooksAt (site_of standard judged files listings) at)

-- The dry run of a module of the site, as it is without some paths, looks at this path.
pub record DryRunOfSiteLooksAt (judged : Environment) (files : Files) (listings : Listings) (at : Text) : Type 0 where
  pub paths : List Text
  pub m : SiteModule
  pub of_site : IsOfSite (site_of standard judged (without paths files) (without paths listings)) m
  pub looks : DryRunLooksAt (in_sh standard files listings) judged m.name m.path at

-- the paths for a whole audit: those for the site, and those for the dry runs of its modules
abbrev pub JudgedLooksAt : Environment → List Text → Files → Listings → Text → Type 0
JudgedLooksAt judged dirs files listings at =
    SiteLooksAt judged dirs files listings at ⊎ DryRunOfSiteLooksAt judged files listings at

-- An audit by these arguments looks at this path.
abbrev pub AuditCommandLooksAt : Environment → List Text → Files → Listings → Text → Type 0
AuditCommandLooksAt e arguments files listings at =
    (wanted : Wanted) × (wanted_of arguments ≡ Some wanted)
    × JudgedLooksAt (judged_env e wanted.directories) wanted.directories files listings at

-- the dry run of one of these modules looks at this path
abbrev pub DryRunsLookAt : Environment → List AuditedModule → Files → Listings → Text → Type 0
DryRunsLookAt judged modules files listings at =
    (m : AuditedModule) × IsAmong m modules
    × DryRunLooksAt (in_sh standard files listings) judged (string_bytes m.name) (string_bytes m.path) at

-- no path with failures is forgotten
abbrev pub KeepsFailed : (Text → Bool) → (Text → Bool) → Type 0
KeepsFailed before now = (path : Text) → before path ≡ true → now path ≡ true

-- By the trees before and after a call: the device failed in it, and first at this path, which the call looks at by
-- each pair of maps that agrees with the tree right after that.
pub record FailsFirst {T : Type 0} (agrees : T → Files → Listings → Type 0) (failures : T → ℕ)
    (failed : T → Text → Bool) (old new : T) (LooksAt : Files → Listings → Text → Type 0) : Type 0 where
  pub mid : T
  pub reads : ReadsOn agrees failures old mid
  pub counted : (failures old < failures mid) × (failures mid ≤ failures new)
  pub at : Text
  pub failed_at : FailedAt (failed old) (failed mid) at
  pub looks : InEachPair (agrees mid) (λ files listings. LooksAt files listings at)

-- The device failed nowhere, and the tree is read as it is; or it failed, first at a path that is looked at.
abbrev pub ReadsUnlessFails : {T : Type 0} → (T → Files → Listings → Type 0) → (T → ℕ) → (T → Text → Bool) → T → T
    → (Files → Listings → Text → Type 0) → Type 0
ReadsUnlessFails agrees failures failed old new LooksAt =
    (ReadsOn agrees failures old new × (failed new ≡ failed old)) ⊎ FailsFirst agrees failures failed old new LooksAt
