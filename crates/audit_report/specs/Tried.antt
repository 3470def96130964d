-- What happens here, in the report of an audit (own): what the load and then the unload of each module that is tried do
-- in the environment at hand, in words.
use Rattle.std.specs.Prelude.{List, [], ◌∷◌, ◌++◌, codes, string_bytes, Option, Some, None}
use Rattle.envvars.specs.Texts.{Text}
use Rattle.modules.specs.Messages.{message_of}
use Rattle.audit_site.specs.declared.auditing.AuditedModule.{AuditedModule}
use Rattle.audit_report.specs.Words.{listed, spelled}
use Rattle.audit_dry_runs.specs.declared.dry_run.DryRun.{DryRun}
use Rattle.audit_dry_runs.specs.declared.dry_run.DryRun.TheVariants.{Returns, Leaves, LoadRefused, UnloadRefused, AlreadyLoaded}
use Rattle.audit_dry_runs.specs.declared.dry_run.DryRun.TheVariants.{LoadsAnother}

-- ---- modules with their dry runs

-- a module, and what its dry run finds; `None` where it isn't tried
abbrev pub TriedModule : Type 0
TriedModule = AuditedModule × Option DryRun

-- the first of some dry runs, if there is one, and those after it
abbrev pub first_dry_run : List (Option DryRun) → Option DryRun
first_dry_run [] = None
first_dry_run (dry_run ∷ dry_runs) = dry_run

abbrev pub later_dry_runs : List (Option DryRun) → List (Option DryRun)
later_dry_runs [] = []
later_dry_runs (dry_run ∷ dry_runs) = dry_runs

-- the modules, each with its dry run, in their order; where none is left a module isn't tried
abbrev pub with_dry_runs : List AuditedModule → List (Option DryRun) → List TriedModule
with_dry_runs [] dry_runs = []
with_dry_runs (m ∷ ms) dry_runs = (m, first_dry_run dry_runs) ∷ with_dry_runs ms (later_dry_runs dry_runs)

-- ---- words

-- what the load and the unload of a module do
abbrev pub dry_run_words : DryRun → Text
dry_run_words Returns = codes "returns"
dry_run_words (Leaves names) = codes "leaves " ++ listed names.items
dry_run_words (LoadRefused refusal) = codes "its load is refused: " ++ message_of refusal
dry_run_words (UnloadRefused refusal) = codes "its unload is refused: " ++ message_of refusal
dry_run_words AlreadyLoaded = codes "is loaded"
dry_run_words (LoadsAnother name path) =
    string_bytes name ++ (codes " (" ++ (string_bytes path ++ codes ") is loaded in its place"))

-- the field of it, behind a tab
abbrev pub dry_run_field : DryRun → Text
dry_run_field dry_run = codes "\t" ++ spelled (dry_run_words dry_run)

-- the same of a module that is tried; else nothing
abbrev pub here : Option DryRun → Text
here None = []
here (Some dry_run) = dry_run_field dry_run
