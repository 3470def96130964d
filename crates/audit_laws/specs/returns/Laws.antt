-- The laws of the way back (own), for certified modules of a site, and for plain modules without one. Only a module that
-- stays loaded and would lose what it needs refuses an unload, and `purge` leads to the start. The laws speak of the step
-- of a request; a program may also run out of memory, or fail to read or write.
use Rattle.std.specs.Prelude.{◌≡◌, true, false, List, [], ◌∷◌, Option, Some, None, Result, Ok, bytes_eq}
use Rattle.modulename.specs.ModuleName.{is_module_name}
use Rattle.envvars.specs.Texts.{Text}
use Rattle.envvars.specs.Environment.{Environment}
use Rattle.envstate.specs.loaded_list.Loaded.{Entry, loaded_in, without_entry, AreLoadedInOrder}
use Rattle.envstate.specs.stacks.Stacks.{StackState}
use Rattle.envstate.specs.stacks.StackVariables.{stack_in}
use Rattle.shelltext.specs.declared.shell.Shell.{Shell}
use Rattle.modulefile.specs.Moves.{Module}
use Rattle.modulefile.specs.Files.{Ran}
use Rattle.reversal.specs.VariableUses.{VariableUse, Stacked}
use Rattle.reversal.specs.Live.{entries_over}
use Rattle.reversal.specs.Starts.{IsInOrder, IsStart, IsStartWith}
use Rattle.reversal.specs.Runs.{live_after, AreReversibleTogether}
use Rattle.reversal.specs.Laws.{Holds}
use Rattle.requests.specs.Reasons.{RequestReason}
use Rattle.requests.specs.Requests.{Request, load, unload, switch, purge}
use Rattle.requests.specs.Conditions.{has_lost}
use Rattle.requests.specs.Steps.{RequestContext, Done, nothing_done, module_of, RequestStep, Finds, last_meant}
use Rattle.requests.specs.Steps.{UnloadsName, old_name}
use Rattle.requests.specs.Sessions.{Response, Session, in_shell, end_environment, session_moves}
use Rattle.requests.specs.Returning.{AreNew, AreReversibleBeside}
use Rattle.requests.specs.PlainRuns.{HasEvaluatedTo, IsPlain}
use Rattle.requests.specs.JudgedRuns.{IsJudgedPlain}
use Rattle.requests.specs.hand_changes.Events.{Event, moves_of, EventsReach}
use Rattle.requests.specs.hand_changes.Laws.{answered_moves, ResponseMakes}
use Rattle.search.specs.Found.{FoundModule}
use Rattle.audit_certificate.specs.RecordUses.{used_by, IsAmong, Uses}
use Rattle.audit_certificate.specs.Candidates.{Candidate, as_module}
use Rattle.audit_certificate.specs.Clashes.{names_in_conflict}
use Rattle.audit_certificate.specs.Certificates.{IsCertified, certified, AgreesWith}
use Rattle.audit_certificate.specs.Laws.{AreLayered}
use Rattle.audit_laws.specs.site.Sites.{Site, over_site, ReadsEquivalently, candidate_file}
use Rattle.audit_laws.specs.site.Laws.{AreDeterministic, LoadsAreOf, AreReadEquivalently}
use Rattle.audit_laws.specs.returns.Unloads.{without_all, taken_by, AreOfLive, AreNamesOf, without_named}
use Rattle.audit_laws.specs.returns.Unloads.{EndsUnlessNeeded, IsAcceptedOrNeeded, IsBack, EndAlike}
use Rattle.audit_laws.specs.returns.Unloads.{IsPlainlyLoaded, ArePlainlyLoaded, IsUnloadedOrNeeded}
use Rattle.audit_laws.specs.returns.Loads.{IsAcceptedOrForbidden, IsSwitchedOrForbidden}

-- ---- names

-- Names that mean no module of the start unload only live modules. There may be any number of them, in any order.
abbrev pub NamesOfNoneAtStart : Type 0
NamesOfNoneAtStart =
    (first : List Entry) (names : List Text) (live : List Module)
    → ((name : Text) → IsAmong name names → (is_module_name name ≡ true) × (last_meant name first ≡ None))
    → AreOfLive first names live

-- So do the names of live modules, each once and in any order, if no name means another live module. They leave the
-- live modules of other names.
abbrev pub NamesOfLive : Type 0
NamesOfLive =
    (e : Environment) (first : List Entry) (live : List Module) (names : List Text)
    → AreLoadedInOrder e → loaded_in e ≡ Some (entries_over first live) → AreNamesOf names live
    → AreOfLive first names live × (without_all names live ≡ without_named names live)

-- ---- certified modules

-- Certified modules of a site are live over a start. What they read has in the start the values of the audit.
pub record AreLiveOver (site : Site) (ms : List Candidate) (start : Environment) (live : List Module) (e : Environment)
    : Type 0 where
  pub deterministic : AreDeterministic site ms
  pub layered : AreLayered ms start live e
  pub reads : AreReadEquivalently site start live

-- An unload of these names, in this shell, has this outcome where such modules are live over a start with these entries.
pub record IsUnloadOver (site : Site) (ms : List Candidate) (shell : Shell) (start e : Environment) (live : List Module)
    (first : List Entry) (names : List Text) (o : Result Done RequestReason) : Type 0 where
  pub over : AreLiveOver site ms start live e
  pub loaded : loaded_in start ≡ Some first
  pub step : RequestStep (in_shell (over_site site) shell) e (unload names) o

-- An unload of live certified modules runs to its end, in any shell: neither a file nor an edit is refused. The modules
-- that it leaves live are known beforehand, and so is its outcome: it is accepted, unless a module that stays loaded has
-- lost what it needs.
abbrev pub UnloadsEnd : Type 0
UnloadsEnd =
    (site : Site) (ms : List Candidate) (shell : Shell) (start e : Environment) (live : List Module) (first : List Entry)
    (name : Text) (names : List Text) (o : Result Done RequestReason)
    → IsUnloadOver site ms shell start e live first (name ∷ names) o → AreOfLive first (name ∷ names) live
    → EndsUnlessNeeded (AreLayered ms start) first live (without_all (name ∷ names) live) o

-- So every outcome of such an unload is one of two: it is accepted, or it is refused since a module that stays loaded
-- would lose what it needs (53).
abbrev pub UnloadsAreAccepted : Type 0
UnloadsAreAccepted =
    (site : Site) (ms : List Candidate) (shell : Shell) (start e : Environment) (live : List Module) (first : List Entry)
    (name : Text) (names : List Text) (o : Result Done RequestReason)
    → IsUnloadOver site ms shell start e live first (name ∷ names) o → AreOfLive first (name ∷ names) live
    → IsAcceptedOrNeeded (AreLayered ms start) first live (without_all (name ∷ names) live) o

-- This holds for the names of live modules, each once and in any order, if no name means another live module. The live
-- modules of other names are left. Nothing is asked of the names of modules that are loaded at the start.
abbrev pub NamedUnloadsAreAccepted : Type 0
NamedUnloadsAreAccepted =
    (site : Site) (ms : List Candidate) (shell : Shell) (start e : Environment) (live : List Module) (first : List Entry)
    (name : Text) (names : List Text) (o : Result Done RequestReason)
    → IsUnloadOver site ms shell start e live first (name ∷ names) o → AreNamesOf (name ∷ names) live
    → IsAcceptedOrNeeded (AreLayered ms start) first live (without_named (name ∷ names) live) o

-- An unload that leaves nothing live is accepted and leads to the start, if no module of the start loses what it needs.
abbrev pub UnloadsOfAllReturn : Type 0
UnloadsOfAllReturn =
    (site : Site) (ms : List Candidate) (shell : Shell) (start e : Environment) (live : List Module) (first : List Entry)
    (name : Text) (names : List Text) (o : Result Done RequestReason)
    → IsUnloadOver site ms shell start e live first (name ∷ names) o → AreOfLive first (name ∷ names) live
    → without_all (name ∷ names) live ≡ []
    → ((x : Entry) → IsAmong x first → has_lost (entries_over first live) first x ≡ false) → IsBack start o

-- If no module is loaded at the start, every outcome of `purge` is accepted and leads to the start.
abbrev pub PurgesReturn : Type 0
PurgesReturn =
    (site : Site) (ms : List Candidate) (shell : Shell) (start e : Environment) (live : List Module)
    (o : Result Done RequestReason)
    → AreLiveOver site ms start live e → loaded_in start ≡ Some []
    → RequestStep (in_shell (over_site site) shell) e purge o → IsBack start o

-- Over any start `purge` ends as it would at the start: accepted in the same environment, or refused for the same reason.
-- It unloads the modules of the start too, so only these can refuse it.
abbrev pub PurgesEndAsAtStart : Type 0
PurgesEndAsAtStart =
    (site : Site) (ms : List Candidate) (shell : Shell) (start e : Environment) (live : List Module)
    (o p : Result Done RequestReason)
    → AreLiveOver site ms start live e → RequestStep (in_shell (over_site site) shell) e purge o
    → RequestStep (in_shell (over_site site) shell) start purge p → EndAlike o p

-- ---- sessions

-- A session loads only certified modules. For each, the start agrees with its uses and has the audit's values of its
-- reads. No module of the start is unloaded. Then the session ends in the start with the live modules layered on it, and
-- the start has the audit's values of their reads. So the laws of unloads and of loads apply at its end.
abbrev pub SessionsAreLayered : Type 0
SessionsAreLayered =
    (site : Site) (ms : List Candidate) (start : Environment) (rs : List Request) (os : List Response)
    → AreDeterministic site ms → AreLoadedInOrder start → Session (over_site site) start rs os
    → AreNew start (session_moves os) → LoadsAreOf site (certified ms) start (session_moves os)
    → AreLiveOver site ms start (live_after [] (session_moves os)) (end_environment start os)

-- The way back is always open. Take a start with no module loaded, and any such session, whatever was refused or failed in
-- it. At its end every outcome of `purge`, in any shell, is accepted and leads to the start.
abbrev pub TheWayBackIsOpen : Type 0
TheWayBackIsOpen =
    (site : Site) (ms : List Candidate) (shell : Shell) (start : Environment) (rs : List Request) (os : List Response)
    (o : Result Done RequestReason)
    → AreDeterministic site ms → AreLoadedInOrder start → loaded_in start ≡ Some []
    → Session (over_site site) start rs os → LoadsAreOf site (certified ms) start (session_moves os)
    → RequestStep (in_shell (over_site site) shell) (end_environment start os) purge o → IsBack start o

-- And there is such an outcome.
abbrev pub TheWayBackIsThere : Type 0
TheWayBackIsThere =
    (site : Site) (ms : List Candidate) (shell : Shell) (start : Environment) (rs : List Request) (os : List Response)
    → AreDeterministic site ms → AreLoadedInOrder start → loaded_in start ≡ Some []
    → Session (over_site site) start rs os → LoadsAreOf site (certified ms) start (session_moves os)
    → (done : Done) × RequestStep (in_shell (over_site site) shell) (end_environment start os) purge (Ok done)
    × (done.env ≡ start)

-- ---- loads

-- Certified modules are live over a start, and a name finds a certified module. The start agrees with its uses, and the
-- environment has the audit's values of its reads. Then the load of this name, in any shell, is accepted or forbidden: by
-- a conflict (51), a prereq (52) or a full counter (34), and by nothing else.
abbrev pub LoadsAreAccepted : Type 0
LoadsAreAccepted =
    (site : Site) (ms : List Candidate) (shell : Shell) (start e : Environment) (live : List Module) (c : Candidate)
    (name : Text) (m : FoundModule) (o : Result Done RequestReason)
    → AreDeterministic site ms → AreLayered ms start live e → IsCertified ms c → AgreesWith (used_by c.records) start
    → ReadsEquivalently site e (candidate_file c)
    → Finds (in_shell (over_site site) shell) e name (Ok m) → m.name ≡ c.name → m.path ≡ c.path
    → RequestStep (in_shell (over_site site) shell) e (load (name ∷ [])) o → IsAcceptedOrForbidden o

-- Certified modules are live over a start. The old name of a switch means one of them, or no module of the start. Where it
-- is unloaded, the new name finds a certified module whose reads have the audit's values there, and with whose uses the
-- start agrees. Then the switch is accepted or forbidden: as the load is, or by a module that stays loaded and would lose
-- what it needs (53).
abbrev pub SwitchesAreAccepted : Type 0
SwitchesAreAccepted =
    (site : Site) (ms : List Candidate) (shell : Shell) (start e : Environment) (live : List Module) (first : List Entry)
    (c : Candidate) (old : Option Text) (new : Text) (m : FoundModule) (o : Result Done RequestReason)
    → AreLiveOver site ms start live e → loaded_in start ≡ Some first → AreOfLive first (old_name old new ∷ []) live
    → IsCertified ms c → AgreesWith (used_by c.records) start → m.name ≡ c.name → m.path ≡ c.path
    → ((d : Done) → UnloadsName (in_shell (over_site site) shell) true (old_name old new) (nothing_done e) (Ok d)
    → Finds (in_shell (over_site site) shell) d.env new (Ok m) × ReadsEquivalently site d.env (candidate_file c))
    → RequestStep (in_shell (over_site site) shell) e (switch old new) o → IsSwitchedOrForbidden o

-- The environment has these values if the start has them, no live module has the module's name, and no conflict of a live
-- module means it.
abbrev pub ReadsAreOfStart : Type 0
ReadsAreOfStart =
    (site : Site) (ms : List Candidate) (start e : Environment) (live : List Module) (c : Candidate)
    → AreDeterministic site ms → AreLayered ms start live e → IsCertified ms c
    → ReadsEquivalently site start (candidate_file c)
    → ((n : Module) → IsAmong n live → (bytes_eq c.name n.name ≡ false) × (names_in_conflict n (as_module c) ≡ false))
    → ReadsEquivalently site e (candidate_file c)

-- ---- plain modules

-- Modules that are reversible and apart are live over a start, which is in order by their uses of variables.
pub record AreReversibleOver (uses : Text → VariableUse) (start : Environment) (live : List Module) (e : Environment)
    : Type 0 where
  pub begins : IsStart uses start
  pub order : IsInOrder uses e
  pub start_with_live : IsStartWith uses start live e
  pub fit : AreReversibleTogether uses live

-- A module with a plain file is plainly loaded if its records are those of an accepted evaluation of this file.
abbrev pub PlainModulesLoadPlainly : Type 0
PlainModulesLoadPlainly =
    (s : RequestContext) (m : Module) (ran : Ran) → IsPlain s m.name m.path → HasEvaluatedTo s m.name m.path ran
    → m.records ≡ ran.records → IsPlainlyLoaded s m

-- The name means a loaded module with a plain file. The loaded list is in order, and each stack on which the file pushes
-- can be read. Then every outcome of its unload is one of two. Nothing is asked of other modules, of a start, or of how the
-- module was loaded.
abbrev pub OnePlainIsUnloaded : Type 0
OnePlainIsUnloaded =
    (s : RequestContext) (e : Environment) (loaded : List Entry) (x : Entry) (ran : Ran) (name : Text)
    (o : Result Done RequestReason)
    → AreLoadedInOrder e → loaded_in e ≡ Some loaded → is_module_name name ≡ true → last_meant name loaded ≡ Some x
    → HasEvaluatedTo s x.name x.path ran → ran.asked ≡ []
    → ((v : Text) → Uses ran.records v Stacked → (stack : StackState) × (stack_in e v ≡ Some stack))
    → RequestStep s e (unload (name ∷ [])) o
    → IsUnloadedOrNeeded (module_of x.name x.path ran) loaded (without_entry x.name loaded) o

-- An unload of plain modules runs to its end. They are live beside others, of whose files nothing is asked.
abbrev pub PlainUnloadsEnd : Type 0
PlainUnloadsEnd =
    (uses : Text → VariableUse) (s : RequestContext) (start e : Environment) (live : List Module) (first : List Entry)
    (name : Text) (names : List Text) (o : Result Done RequestReason)
    → AreReversibleOver uses start live e → loaded_in start ≡ Some first → AreOfLive first (name ∷ names) live
    → ArePlainlyLoaded s (taken_by (name ∷ names) live) → RequestStep s e (unload (name ∷ names)) o
    → EndsUnlessNeeded (Holds uses start) first live (without_all (name ∷ names) live) o

-- So every outcome of such an unload is accepted, or refused since a module that stays loaded would lose what it needs.
abbrev pub PlainUnloadsAreAccepted : Type 0
PlainUnloadsAreAccepted =
    (uses : Text → VariableUse) (s : RequestContext) (start e : Environment) (live : List Module) (first : List Entry)
    (name : Text) (names : List Text) (o : Result Done RequestReason)
    → AreReversibleOver uses start live e → loaded_in start ≡ Some first → AreOfLive first (name ∷ names) live
    → ArePlainlyLoaded s (taken_by (name ∷ names) live) → RequestStep s e (unload (name ∷ names)) o
    → IsAcceptedOrNeeded (Holds uses start) first live (without_all (name ∷ names) live) o

-- If no module is loaded at the start and all live ones are plain, every outcome of `purge` is accepted and leads to the
-- start.
abbrev pub PlainPurgesReturn : Type 0
PlainPurgesReturn =
    (uses : Text → VariableUse) (s : RequestContext) (start e : Environment) (live : List Module)
    (o : Result Done RequestReason)
    → AreReversibleOver uses start live e → ArePlainlyLoaded s live → loaded_in start ≡ Some []
    → RequestStep s e purge o → IsBack start o

-- A session of requests with changes by hand between them loads new modules that are reversible and apart. At its end the
-- unload of live modules that were judged plain has such an outcome. Nothing is asked of the files of the others.
abbrev pub JudgedUnloadsAreAccepted : Type 0
JudgedUnloadsAreAccepted =
    (uses : Text → VariableUse) (s : RequestContext) (start last_start last : Environment)
    (events : List (Event (Request × Response))) (live : List Module) (first : List Entry) (shell : Shell) (name : Text)
    (names : List Text) (o : Result Done RequestReason)
    → IsStart uses start → EventsReach answered_moves (ResponseMakes s) uses start events last_start last
    → AreNew start (moves_of answered_moves events) → AreReversibleBeside uses [] (moves_of answered_moves events)
    → live ≡ live_after [] (moves_of answered_moves events) → loaded_in last_start ≡ Some first
    → AreOfLive first (name ∷ names) live
    → ((m : Module) → IsAmong m (taken_by (name ∷ names) live) → IsJudgedPlain s m.name m.path)
    → RequestStep (in_shell s shell) last (unload (name ∷ names)) o
    → IsAcceptedOrNeeded (Holds uses last_start) first live (without_all (name ∷ names) live) o
