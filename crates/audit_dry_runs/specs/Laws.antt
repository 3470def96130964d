-- The laws of dry runs (own).
use Rattle.std.specs.Prelude.{◌≡◌, List, [], ◌∷◌, Ok}
use Rattle.envvars.specs.Texts.{Text}
use Rattle.envvars.specs.Environment.{Environment}
use Rattle.filetree.specs.Causes.{Cause, memory, device, because}
use Rattle.modulefile.specs.Records.{Record}
use Rattle.modulefile.specs.Moves.{Unloads}
use Rattle.requests.specs.Reasons.{RequestReason}
use Rattle.requests.specs.Steps.{RequestContext, Done}
use Rattle.audit_dry_runs.specs.DryRuns.{DryRun, returns, leaves, load_refused, unload_refused, already_loaded, loads_another}
use Rattle.audit_dry_runs.specs.DryRuns.{HasDryRun, LoadsModule, UnloadStep}

-- the dry run has no refusal, or one with a reason
abbrev pub HasReason : Cause RequestReason → Type 0
HasReason memory = ⊥
HasReason device = ⊥
HasReason (because reason) = Unit {0}

abbrev pub IsDecided : DryRun → Type 0
IsDecided returns = Unit {0}
IsDecided (leaves names) = Unit {0}
IsDecided (load_refused cause) = HasReason cause
IsDecided (unload_refused cause) = HasReason cause
IsDecided already_loaded = Unit {0}
IsDecided (loads_another name path) = Unit {0}

-- Where no device failed a module has one dry run at most.
abbrev pub OneDryRun : Type 0
OneDryRun =
    (s : RequestContext) (not_utf8 : List Text) (e : Environment) (name path : Text) (t u : DryRun)
    → IsDecided t → IsDecided u → HasDryRun s not_utf8 e name path t → HasDryRun s not_utf8 e name path u → t ≡ u

-- It has one.
abbrev pub SomeDryRun : Type 0
SomeDryRun =
    (s : RequestContext) (not_utf8 : List Text) (e : Environment) (name path : Text)
    → (t : DryRun) × IsDecided t × HasDryRun s not_utf8 e name path t

-- The unload of the name, where it is accepted, is that of the module that was loaded.
abbrev pub UnloadsTheModule : Type 0
UnloadsTheModule =
    (s : RequestContext) (e : Environment) (name path : Text) (d back : Done) → LoadsModule s e name name path d
    → UnloadStep s d.env name (Ok back)
    → (records : List Record)
    × (back.moves ≡ Unloads (record { name = name; path = path; records = records }) ∷ [])
