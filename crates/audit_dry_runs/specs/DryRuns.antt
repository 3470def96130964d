-- Dry runs (own): what the load of a module and then its unload do in an environment.
use Rattle.std.specs.Prelude.{◌≡◌, ◌<◌, length, List, [], ◌∷◌, ◌++◌, map, Result, Ok, Err, is_some, if◌then◌else◌}
use Rattle.std.specs.List.{flat_map}
use Rattle.envvars.specs.Texts.{Text}
use Rattle.envvars.specs.Environment.{Environment, lookup}
use Rattle.envvars.specs.Changes.{NewValue, AreChanges}
use Rattle.filetree.specs.Causes.{Cause, memory, device, because}
use Rattle.modulefile.specs.Records.{Record}
use Rattle.modulefile.specs.Moves.{Loads}
use Rattle.requests.specs.Looked.{LooksInTurn, RequestLooksAt}
use Rattle.requests.specs.Reasons.{RequestReason}
use Rattle.requests.specs.Requests.{load, unload}
use Rattle.requests.specs.Steps.{RequestContext, Done, RequestStep}

-- what a dry run of a module finds
pub data DryRun : Type 0 where
  -- after load and unload the environment is again what it was
  returns : DryRun
  -- after both these variables are otherwise
  leaves : (names : List Text) → DryRun
  -- the load is refused
  load_refused : Cause RequestReason → DryRun
  -- the unload is refused
  unload_refused : Cause RequestReason → DryRun
  -- the load changes nothing, since the module that the name means is loaded
  already_loaded : DryRun
  -- the load is that of another module, of this name and path
  loads_another : (name path : Text) → DryRun

-- the requests of a dry run: the load of the name, and its unload
abbrev pub LoadStep : RequestContext → Environment → Text → Result Done RequestReason → Type 0
LoadStep s e name = RequestStep s e (load (name ∷ []))

abbrev pub UnloadStep : RequestContext → Environment → Text → Result Done RequestReason → Type 0
UnloadStep s e name = RequestStep s e (unload (name ∷ []))

-- A request is refused: for the reason of its step, or because a device failed. Want of memory is no finding.
abbrev pub IsRefusedBy : Cause RequestReason → (Result Done RequestReason → Type 0) → Type 0
IsRefusedBy memory Step = ⊥
IsRefusedBy device Step = Unit {0}
IsRefusedBy (because reason) Step = Step (Err reason)

-- The load of the typed name is accepted, and what it loads is the module of this name and path alone.
pub record LoadsModule (s : RequestContext) (e : Environment) (typed name path : Text) (d : Done) : Type 0 where
  pub accepted : LoadStep s e typed (Ok d)
  pub records : List Record
  pub alone : d.moves ≡ Loads (record { name = name; path = path; records = records }) ∷ []

-- ---- variables that aren't UTF-8

-- the variable, where an environment has it; and where it doesn't
abbrev pub if_set : Environment → Text → List Text
if_set e v = if is_some (lookup e v) then v ∷ [] else []

abbrev pub if_unset : Environment → Text → List Text
if_unset e v = if is_some (lookup e v) then [] else v ∷ []

-- those of some variables that an environment has; and those that it hasn't
abbrev pub set_among : Environment → List Text → List Text
set_among e names = flat_map (if_set e) names

abbrev pub unset_among : Environment → List Text → List Text
unset_among e names = flat_map (if_unset e) names

-- Of these variables, whose values no environment has, those that a load sets and an unload unsets again: their values
-- are lost.
abbrev pub lost_among : List Text → Environment → Environment → List Text
lost_among not_utf8 loaded back = unset_among back (set_among loaded not_utf8)

-- ---- dry runs

-- These are the variables whose values differ, each once, in the order of the bytes of names, and then those whose values
-- are lost; and there are some.
pub record AreLeft (old new : Environment) (lost names : List Text) : Type 0 where
  pub some : 0 < length names
  pub changes : List NewValue
  pub exact : AreChanges old new changes
  pub named : names ≡ map (λ c. c.0) changes ++ lost

-- The dry run of the module of this name and path, in an environment, beside which the process has these variables,
-- which aren't UTF-8: its name is loaded, and where that loads this module the name is unloaded again.
abbrev pub HasDryRun : RequestContext → List Text → Environment → Text → Text → DryRun → Type 0
HasDryRun s not_utf8 e name path returns =
    (d back : Done) × LoadsModule s e name name path d × UnloadStep s d.env name (Ok back) × (back.env ≡ e)
    × (lost_among not_utf8 d.env back.env ≡ [])
HasDryRun s not_utf8 e name path (leaves names) =
    (d back : Done) × LoadsModule s e name name path d × UnloadStep s d.env name (Ok back)
    × AreLeft e back.env (lost_among not_utf8 d.env back.env) names
HasDryRun s not_utf8 e name path (load_refused cause) = IsRefusedBy cause (LoadStep s e name)
HasDryRun s not_utf8 e name path (unload_refused cause) =
    (d : Done) × LoadsModule s e name name path d × IsRefusedBy cause (UnloadStep s d.env name)
HasDryRun s not_utf8 e name path already_loaded = (d : Done) × LoadStep s e name (Ok d) × (d.moves ≡ [])
HasDryRun s not_utf8 e name path (loads_another other at) =
    (d : Done) × LoadsModule s e name other at d × ((other ≡ name) × (at ≡ path) → ⊥)

-- The dry run looks at this path: the load does, or in what it made the unload.
abbrev pub DryRunLooksAt : RequestContext → Environment → Text → Text → Text → Type 0
DryRunLooksAt s e name path =
    LooksInTurn (RequestLooksAt s e (load (name ∷ []))) (LoadsModule s e name name path)
    (λ d. RequestLooksAt s d.env (unload (name ∷ [])))
