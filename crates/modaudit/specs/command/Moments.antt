-- What may refuse a command at a moment of a session of modules that the report of modaudit calls certified (own). `unload`,
-- `load` and `switch` are those of module(1).
use Rattle.std.specs.Prelude.{◌≡◌, ◌⊎◌, true, false, List, [], ◌∷◌, Option, Some, Ok, Err, bytes_eq}
use Rattle.std.specs.List.{list_any}
use Rattle.modulename.specs.ModuleName.{means}
use Rattle.envvars.specs.Texts.{Text}
use Rattle.envvars.specs.Environment.{Environment}
use Rattle.envstate.specs.loaded_list.Loaded.{Entry, loaded_in}
use Rattle.shelltext.specs.declared.shell.Shell.{Shell}
use Rattle.shelltext.specs.Shells.{shell_named}
use Rattle.filetree.specs.Agreement.{Files, Listings}
use Rattle.modulefile.specs.Records.{Record, conflict_names}
use Rattle.modulefile.specs.Moves.{Module}
use Rattle.reversal.specs.Live.{entries_over}
use Rattle.reversal.specs.Runs.{live_after}
use Rattle.search.specs.Found.{FoundModule}
use Rattle.requests.specs.Reasons.{RequestReason}
use Rattle.requests.specs.Requests.{RequestedAction, load, unload, switch, request_of}
use Rattle.requests.specs.Steps.{Done, nothing_done, Finds, UnloadsName, old_name}
use Rattle.requests.specs.Sessions.{in_shell}
use Rattle.audit_certificate.specs.RecordUses.{IsAmong, used_by}
use Rattle.audit_certificate.specs.Certificates.{AgreesWith}
use Rattle.audit_laws.specs.site.Sites.{Site, SiteModule, over_site, HasFirstRecords, ReadsEquivalently}
use Rattle.audit_laws.specs.returns.Unloads.{AreOfLive, AreNamesOf, without_all, without_named, IsStillNeeded}
use Rattle.audit_laws.specs.returns.Loads.{MayForbidLoad, MayForbidSwitch}
use Rattle.audit_site.specs.Audits.{certified_files}
use Rattle.audit_site.specs.declared.auditing.SiteAudit.{SiteAudit}
use Rattle.modulecmd.specs.Command.{CommandResult, CommandHasResult, refused_for}
use Rattle.modaudit.specs.command.WayBack.{IsWayBackOpen}

-- ---- modules of the report

-- The report calls this module certified. The start agrees with what it uses, by the records of its file for loading in
-- sh with nothing loaded.
pub record SuitsStart (site : Site) (found : SiteAudit) (start : Environment) (m : SiteModule) : Type 0 where
  pub certified : IsAmong m (certified_files found.modules.items)
  pub records : List Record
  pub first : HasFirstRecords site m records
  pub agrees : AgreesWith (used_by records) start

-- Such a module, of which the start has also the values of the audit of what it reads.
pub record IsReported (site : Site) (found : SiteAudit) (start : Environment) (m : SiteModule) : Type 0 where
  pub suits : SuitsStart site found start m
  pub reads : ReadsEquivalently site start m

-- ---- how a command ends

-- The step of the command accepts it, and has done this; or it refuses it for such a reason.
abbrev pub EndsBy : Files → Listings → List Text → Environment → (Done → Type 0) → (RequestReason → Type 0) → Type 0
EndsBy files listings arguments e HasDone MayRefuse =
    ((effect : CommandResult) × CommandHasResult arguments e files listings (Ok effect) × HasDone effect.1)
    ⊎ ((reason : RequestReason) × CommandHasResult arguments e files listings (Err (refused_for reason)) × MayRefuse reason)

-- So ends each command that asks for this, in each shell.
abbrev pub EachEndsBy : Site → RequestedAction → Environment → (Done → Type 0) → (RequestReason → Type 0) → Type 0
EachEndsBy site action e HasDone MayRefuse =
    (word : Text) (words : List Text) (shell : Shell) → shell_named word ≡ Some shell → request_of words ≡ Ok action
    → EndsBy site.files site.listings (word ∷ words) e HasDone MayRefuse

-- it has left these modules live
abbrev pub Leaves : List Module → List Module → Done → Type 0
Leaves live left done = live_after live done.moves ≡ left

-- it has done anything
abbrev pub IsDone : Done → Type 0
IsDone done = Unit {0}

-- ---- at a moment

-- what a search found, without its text
abbrev pub found_file : FoundModule → SiteModule
found_file m = record { name = m.name; path = m.path }

-- No live module has the name of this module, and no conflict of a live one means it.
abbrev pub IsUnrelated : List Module → SiteModule → Type 0
IsUnrelated live m =
    (n : Module) → IsAmong n live
    → (bytes_eq m.name n.name ≡ false) × (list_any (λ name. means name m.name) (conflict_names n.records) ≡ false)

-- How commands end where these modules are live over a start. An unload takes only live modules (`unloads`), as by their
-- names, each once, if no name means another live module (`named_unloads`). It is accepted and leaves the others live, or
-- a module that stays loaded would lose what it needs. A load is of one name that finds a module which suits the start,
-- and what this module reads has the values of the audit. It is accepted, or refused for a conflict, a prereq or a full
-- counter (`loads`). The values are there if the start has them, and the module is unrelated to the live ones (`reads`). A
-- switch from a live module to such a one ends as these (`switches`).
pub record CommandsEnd (site : Site) (found : SiteAudit) (live : List Module) (now start : Environment) : Type 0 where
  pub unloads : (first : List Entry) (name : Text) (names : List Text) → loaded_in start ≡ Some first
      → AreOfLive first (name ∷ names) live
      → EachEndsBy site (unload (name ∷ names)) now (Leaves live (without_all (name ∷ names) live))
      (IsStillNeeded (entries_over first live) (entries_over first (without_all (name ∷ names) live)))
  pub named_unloads : (first : List Entry) (name : Text) (names : List Text) → loaded_in start ≡ Some first
      → AreNamesOf (name ∷ names) live
      → EachEndsBy site (unload (name ∷ names)) now (Leaves live (without_named (name ∷ names) live))
      (IsStillNeeded (entries_over first live) (entries_over first (without_named (name ∷ names) live)))
  pub loads : (name : Text) (m : FoundModule) → Finds (over_site site) now name (Ok m)
      → SuitsStart site found start (found_file m) → ReadsEquivalently site now (found_file m)
      → EachEndsBy site (load (name ∷ [])) now IsDone MayForbidLoad
  pub reads : (m : SiteModule) → IsReported site found start m → IsUnrelated live m → ReadsEquivalently site now m
  pub switches : (old : Option Text) (new : Text) (first : List Entry) (m : FoundModule) → loaded_in start ≡ Some first
      → AreOfLive first (old_name old new ∷ []) live → SuitsStart site found start (found_file m)
      → ((shell : Shell) (d : Done)
      → UnloadsName (in_shell (over_site site) shell) true (old_name old new) (nothing_done now) (Ok d)
      → Finds (over_site site) d.env new (Ok m) × ReadsEquivalently site d.env (found_file m))
      → EachEndsBy site (switch old new) now IsDone MayForbidSwitch

-- What holds at a moment of a session where these modules are live over a start: with none it is the start, the way back
-- is open, and commands end so.
pub record HoldsAtMoment (site : Site) (found : SiteAudit) (live : List Module) (now start : Environment) : Type 0 where
  pub returned : live ≡ [] → now ≡ start
  pub way_back : IsWayBackOpen site.files site.listings live now start
  pub commands : CommandsEnd site found live now start
