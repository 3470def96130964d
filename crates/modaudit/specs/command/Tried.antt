-- What happens with the modules of an audit in the environment that is judged (own): their dry runs.
use Rattle.std.specs.Prelude.{◌≡◌, ℕ, ◌+◌, Bool, true, false, List, [], ◌∷◌, Option, Some, None, string_bytes}
use Rattle.envvars.specs.Texts.{Text}
use Rattle.envvars.specs.Environment.{Environment}
use Rattle.requests.specs.Steps.{RequestContext}
use Rattle.audit_site.specs.declared.auditing.AuditedModule.{AuditedModule}
use Rattle.audit_site.specs.declared.standing.AuditStanding.{AuditStanding}
use Rattle.audit_site.specs.declared.standing.AuditStanding.TheVariants.{Certified, Unstable, OneWay, Inconsistent}
use Rattle.audit_site.specs.declared.standing.AuditStanding.TheVariants.{Excluded, Clashes, Refused}
use Rattle.audit_dry_runs.specs.DryRuns.{HasDryRun}
use Rattle.audit_dry_runs.specs.Views.{dry_run_view, count_failed, has_failed}
use Rattle.audit_dry_runs.specs.declared.dry_run.DryRun.{DryRun}

-- A module that stands so is tried: it isn't certified, and its evaluation isn't refused.
abbrev pub is_tried : AuditStanding → Bool
is_tried Certified = false
is_tried (Unstable first) = true
is_tried (OneWay first) = true
is_tried (Inconsistent variable one other) = true
is_tried Excluded = true
is_tried (Clashes clash) = true
is_tried (Refused refusal) = false

-- the dry run of a module, in this environment, beside which the process has these variables, which aren't UTF-8; none
-- where it isn't tried
abbrev pub IsDryRunOf : RequestContext → List Text → Environment → AuditedModule → Option DryRun → Type 0
IsDryRunOf s not_utf8 e m None = is_tried m.standing ≡ false
IsDryRunOf s not_utf8 e m (Some dry_run) =
    (is_tried m.standing ≡ true)
    × HasDryRun s not_utf8 e (string_bytes m.name) (string_bytes m.path) (dry_run_view dry_run)

-- the same of each of the modules, in their order
abbrev pub AreDryRuns : RequestContext → List Text → Environment → List AuditedModule → List (Option DryRun) → Type 0
AreDryRuns s not_utf8 e [] [] = Unit {0}
AreDryRuns s not_utf8 e [] (dry_run ∷ dry_runs) = ⊥
AreDryRuns s not_utf8 e (m ∷ ms) [] = ⊥
AreDryRuns s not_utf8 e (m ∷ ms) (dry_run ∷ dry_runs) = IsDryRunOf s not_utf8 e m dry_run × AreDryRuns s not_utf8 e ms dry_runs

-- it ended because the device failed
abbrev pub has_failed_dry_run : Option DryRun → Bool
has_failed_dry_run None = false
has_failed_dry_run (Some dry_run) = has_failed dry_run

-- one for a dry run that did
abbrev pub count_dry_run : Option DryRun → ℕ
count_dry_run None = 0
count_dry_run (Some dry_run) = count_failed dry_run

-- how many of them did
abbrev pub failed_in : List (Option DryRun) → ℕ
failed_in [] = 0
failed_in (dry_run ∷ dry_runs) = count_dry_run dry_run + failed_in dry_runs
