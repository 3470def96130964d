-- What an unload leaves live, and how it ends (own; `unload` and `purge` of module(1)).
use Rattle.std.specs.Prelude.{◌≡◌, ◌⊎◌, Bool, true, not, List, [], ◌∷◌, filter, find, if◌then◌else◌, None, Result, Ok, Err}
use Rattle.std.specs.List.{list_any, cons_option}
use Rattle.modulename.specs.ModuleName.{is_module_name, means}
use Rattle.envvars.specs.Texts.{Text, has}
use Rattle.envvars.specs.Fields.{are_distinct}
use Rattle.envvars.specs.Environment.{Environment}
use Rattle.envstate.specs.loaded_list.Loaded.{Entry}
use Rattle.modulefile.specs.Moves.{Module, Unloads}
use Rattle.modulefile.specs.Files.{Ran}
use Rattle.reversal.specs.Live.{entries_over}
use Rattle.reversal.specs.Runs.{live_after}
use Rattle.requests.specs.Refusals.{unless}
use Rattle.requests.specs.Reasons.{RequestReason, still_needed_by}
use Rattle.requests.specs.Conditions.{has_lost, end_objection}
use Rattle.requests.specs.Steps.{RequestContext, Done, last_meant}
use Rattle.requests.specs.PlainRuns.{HasEvaluatedTo}
use Rattle.audit_certificate.specs.RecordUses.{IsAmong}

-- ---- what names unload

-- the name means one of the live modules
abbrev pub means_one : Text → List Module → Bool
means_one name live = list_any (λ m. means name m.name) live

-- The live modules after an unload of this name, which takes the last loaded module that it means. The newest is the
-- first of the list.
abbrev pub without_meant : Text → List Module → List Module
without_meant name [] = []
without_meant name (m ∷ live) = if means name m.name then live else m ∷ without_meant name live

-- the live modules after unloads of these names, one after another
abbrev pub without_all : List Text → List Module → List Module
without_all [] live = live
without_all (name ∷ names) live = without_all names (without_meant name live)

-- The live modules that unloads of these names take, one after another: for each name the newest that it means then, if
-- any is meant.
abbrev pub taken_by : List Text → List Module → List Module
taken_by [] live = []
taken_by (name ∷ names) live = cons_option (find (λ m. means name m.name) live) (taken_by names (without_meant name live))

-- Unloads of these names, one after another, take only live modules. Each name is well spelled. In its turn it means a
-- live module, or it means none of those that are loaded at the start, which has these entries.
abbrev pub AreOfLive : List Entry → List Text → List Module → Type 0
AreOfLive first [] live = Unit {0}
AreOfLive first (name ∷ names) live =
    (is_module_name name ≡ true) × ((means_one name live ≡ true) ⊎ (last_meant name first ≡ None))
    × AreOfLive first names (without_meant name live)

-- The names are those of live modules, each once, and no name means another live module. (`gcc` means `gcc/9`, too.)
pub record AreNamesOf (names : List Text) (live : List Module) : Type 0 where
  pub each : (name : Text) → IsAmong name names → (m : Module) × IsAmong m live × (m.name ≡ name)
  pub once : are_distinct names ≡ true
  pub alone : (name : Text) (m : Module) → IsAmong name names → IsAmong m live → means name m.name ≡ true
      → m.name ≡ name

-- the live modules of other names
abbrev pub without_named : List Text → List Module → List Module
without_named names live = filter (λ m. not (has m.name names)) live

-- ---- how the request ends

-- The request runs to its end, where these modules are left live over the start: `IsOver` says so of the environment.
-- The outcome is accepted, unless a module that is loaded then has lost what it needs.
pub record EndsUnlessNeeded (IsOver : List Module → Environment → Type 0) (first : List Entry) (live left : List Module)
    (o : Result Done RequestReason) : Type 0 where
  pub done : Done
  pub over : IsOver left done.env
  pub moved : live_after live done.moves ≡ left
  pub outcome : o ≡ unless (end_objection (entries_over first live) (entries_over first left)) (Ok done)

-- A module that stays loaded would lose what it needs: one of its prereqs is met before, and would no longer be.
abbrev pub IsStillNeeded : (before after : List Entry) → RequestReason → Type 0
IsStillNeeded before after reason =
    (x : Entry) × IsAmong x after × (has_lost before after x ≡ true) × (reason ≡ still_needed_by x.name)

-- The request is accepted and leaves these modules live over the start. Or it is refused, since a module that stays loaded
-- would lose what it needs.
abbrev pub IsAcceptedOrNeeded : (List Module → Environment → Type 0) → List Entry → List Module → List Module
    → Result Done RequestReason → Type 0
IsAcceptedOrNeeded IsOver first live left (Ok done) = IsOver left done.env × (live_after live done.moves ≡ left)
IsAcceptedOrNeeded IsOver first live left (Err reason) =
    IsStillNeeded (entries_over first live) (entries_over first left) reason

-- The request is accepted and leads to the start.
abbrev pub IsBack : Environment → Result Done RequestReason → Type 0
IsBack start o = (done : Done) × (o ≡ Ok done) × (done.env ≡ start)

-- Two requests end alike: both are accepted and lead to one environment, or both are refused for one reason.
abbrev pub EndAlike : Result Done RequestReason → Result Done RequestReason → Type 0
EndAlike (Ok one) (Ok other) = one.env ≡ other.env
EndAlike (Ok one) (Err reason) = ⊥
EndAlike (Err reason) (Ok other) = ⊥
EndAlike (Err reason) (Err other) = reason ≡ other

-- ---- plain modules

-- The module's records are those of an evaluation of its file that asked nothing.
abbrev pub IsPlainlyLoaded : RequestContext → Module → Type 0
IsPlainlyLoaded s m = (ran : Ran) × HasEvaluatedTo s m.name m.path ran × (ran.asked ≡ []) × (m.records ≡ ran.records)

abbrev pub ArePlainlyLoaded : RequestContext → List Module → Type 0
ArePlainlyLoaded s live = (m : Module) → IsAmong m live → IsPlainlyLoaded s m

-- The request is accepted and unloads this module alone. Or it is refused, since a module that stays loaded would lose
-- what it needs.
abbrev pub IsUnloadedOrNeeded : Module → (before after : List Entry) → Result Done RequestReason → Type 0
IsUnloadedOrNeeded m before after (Ok done) = done.moves ≡ Unloads m ∷ []
IsUnloadedOrNeeded m before after (Err reason) = IsStillNeeded before after reason
