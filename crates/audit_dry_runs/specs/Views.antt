-- The dry runs of the program, as the definitions see them.
use Rattle.std.specs.Prelude.{ℕ, Bool, false, string_bytes, Result, Ok, Err}
use Rattle.envvars.specs.Texts.{texts_in}
use Rattle.modules.specs.Answers.{cause_of, is_failure}
use Rattle.modules.specs.Responses.{count_cause}
use Rattle.audit_dry_runs.specs.DryRuns as dry_runs
use Rattle.audit_dry_runs.specs.declared.dry_run.DryRun.{DryRun}
use Rattle.audit_dry_runs.specs.declared.dry_run.DryRun.TheVariants.{Returns, Leaves, LoadRefused, UnloadRefused, AlreadyLoaded}
use Rattle.audit_dry_runs.specs.declared.dry_run.DryRun.TheVariants.{LoadsAnother}

-- the dry run, with refusals by their causes
abbrev pub dry_run_view : DryRun → dry_runs.DryRun
dry_run_view Returns = dry_runs.returns
dry_run_view (Leaves names) = dry_runs.leaves (texts_in names)
dry_run_view (LoadRefused refusal) = dry_runs.load_refused (cause_of refusal)
dry_run_view (UnloadRefused refusal) = dry_runs.unload_refused (cause_of refusal)
dry_run_view AlreadyLoaded = dry_runs.already_loaded
dry_run_view (LoadsAnother name path) = dry_runs.loads_another (string_bytes name) (string_bytes path)

-- the dry run ended because the device failed
abbrev pub has_failed : DryRun → Bool
has_failed Returns = false
has_failed (Leaves names) = false
has_failed (LoadRefused refusal) = is_failure refusal
has_failed (UnloadRefused refusal) = is_failure refusal
has_failed AlreadyLoaded = false
has_failed (LoadsAnother name path) = false

-- so did one that gives a dry run
abbrev pub is_failed : {E : Type 0} → Result DryRun E → Bool
is_failed (Ok dry_run) = has_failed dry_run
is_failed (Err e) = false

-- one for a dry run that ended because the device failed
abbrev pub count_failed : DryRun → ℕ
count_failed Returns = 0
count_failed (Leaves names) = 0
count_failed (LoadRefused refusal) = count_cause (cause_of refusal)
count_failed (UnloadRefused refusal) = count_cause (cause_of refusal)
count_failed AlreadyLoaded = 0
count_failed (LoadsAnother name path) = 0
