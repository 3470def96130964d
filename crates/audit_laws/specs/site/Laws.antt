-- The laws of sites (own): loads are admitted, deterministic modules do alike wherever they are evaluated, sessions of
-- certified modules return to their start, and changes by hand keep its agreement with what a module uses.
use Rattle.std.specs.Prelude.{◌≡◌, ◌⊎◌, ◌↔◌, ℕ, true, List, [], ◌∷◌, ◌++◌, Some, Ok}
use Rattle.std.specs.List.{list_all}
use Rattle.envvars.specs.Texts.{Text}
use Rattle.envvars.specs.Environment.{Environment}
use Rattle.envstate.specs.loaded_list.Loaded.{AreLoadedInOrder}
use Rattle.shelltext.specs.declared.shell.Shell.{Shell}
use Rattle.modulefile.specs.Records.{Record, conflict_names}
use Rattle.modulefile.specs.Effects.{load}
use Rattle.modulefile.specs.Moves.{Module, Move, Loads, Unloads}
use Rattle.modulefile.specs.Files.{Ran}
use Rattle.reversal.specs.VariableUses.{VariableUse, Pathed, can_return, absent_in}
use Rattle.reversal.specs.Undone.{UndoEquivalently}
use Rattle.reversal.specs.Runs.{live_after}
use Rattle.reversal.specs.Laws.{Holds}
use Rattle.lookup.specs.DefaultFileResults.{HasResult}
use Rattle.search.specs.Listed.{ListingEntry, names_of, IsListing}
use Rattle.requests.specs.Requests.{RequestedAction, Request}
use Rattle.requests.specs.Steps.{RequestContext, Done, RequestStep}
use Rattle.requests.specs.Sessions.{Response, Session, in_shell, end_environment, session_moves}
use Rattle.requests.specs.Returning.{AreNew}
use Rattle.requests.specs.PlainRuns.{HasEvaluatedTo}
use Rattle.requests.specs.hand_changes.HandChanges.{HandChange, MayChange, IsHandChange, start_after}
use Rattle.audit_certificate.specs.RecordUses.{used_by, IsAmong, Uses, uses_by}
use Rattle.audit_certificate.specs.Candidates.{Candidate, as_module}
use Rattle.audit_certificate.specs.Clashes.{is_other, names_in_conflict}
use Rattle.audit_certificate.specs.Certificates.{IsCertified, certified, AgreesWith}
use Rattle.audit_certificate.specs.Laws.{AreLayered}
use Rattle.audit_laws.specs.determinism.StableInput.{is_changing}
use Rattle.audit_laws.specs.site.Sites.{Site, SiteModule, over_site, HasDeterministicRecords, Reads, ReadsEquivalently, IsDirectory}
use Rattle.audit_laws.specs.site.Sites.{IsOfSite, file_of, candidate_file, IsDeterministicModule, AreDeterministicModules}
use Rattle.audit_laws.specs.site.Sites.{IsClosed, AreDirectories, AreNamesBelow, AreModulesIn, Evaluated, deterministic_among}
use Rattle.audit_laws.specs.site.Sites.{AreEvaluated}
use Rattle.audit_laws.specs.site.Standings.{Standing, Certified, standing_word, HasStanding, IsDeterministicAnd}
use Rattle.audit_laws.specs.site.Admitted.{AdmittedMovesReach}

-- Each load of an accepted request was admitted.
abbrev pub StepsAreAdmitted : Type 0
StepsAreAdmitted =
    (s : RequestContext) (e : Environment) (action : RequestedAction) (d : Done) → RequestStep s e action (Ok d)
    → AdmittedMovesReach d.moves e d.env

-- So was each load of a session.
abbrev pub SessionsAreAdmitted : Type 0
SessionsAreAdmitted =
    (s : RequestContext) (e : Environment) (rs : List Request) (os : List Response) → Session s e rs os
    → AdmittedMovesReach (session_moves os) e (end_environment e os)

-- A listing of `avail` has the names of the modules below its directory.
abbrev pub NamesListed : Type 0
NamesListed =
    (site : Site) (dir : Text) (entries : List ListingEntry)
    → IsListing (HasResult site.limits) site.files site.listings [] dir entries → AreNamesBelow site dir (names_of entries)

-- A closed list of directories of the site has all of them.
abbrev pub DirectoriesFound : Type 0
DirectoriesFound =
    (site : Site) (dirs : List Text) → IsClosed site dirs → ((dir : Text) → IsAmong dir dirs → IsDirectory site dir)
    → AreDirectories site dirs

-- The modules in all directories of a site are the modules of the site.
abbrev pub ModulesFound : Type 0
ModulesFound =
    (site : Site) (dirs : List Text) (ms : List SiteModule) → AreDirectories site dirs → AreModulesIn site dirs ms
    → (m : SiteModule) → IsAmong m ms ↔ IsOfSite site m

-- The deterministic modules of a site are those that are deterministic by the outcomes of its evaluations.
abbrev pub DeterministicModulesFound : Type 0
DeterministicModulesFound =
    (site : Site) (outcomes : List Evaluated) → AreEvaluated site outcomes → AreDeterministicModules site (deterministic_among outcomes)

-- What is loaded so: the records are of kinds after which the start can be back, keep the same variables absent as
-- these, and are in conflict with the same names.
pub record LoadEquivalently (rs loaded : List Record) : Type 0 where
  pub returns : list_all can_return loaded ≡ true
  pub absent : absent_in loaded ≡ absent_in rs
  pub conflicts : conflict_names loaded ≡ conflict_names rs

-- Every accepted evaluation of the file of a deterministic module, for loading or unloading, in whatever shell and half
-- of a switch, where the variables that it reads have the values of the environment at hand, leaves records that undo
-- what its own do, and load so.
abbrev pub DeterministicRecordsAreAll : Type 0
DeterministicRecordsAreAll =
    (site : Site) (m : SiteModule) (rs : List Record) (ran : Ran)
    (left : HasEvaluatedTo (over_site site) m.name m.path ran) → HasDeterministicRecords site m rs
    → is_changing left.context.mode ≡ true → ReadsEquivalently site left.context.before m
    → UndoEquivalently ran.records rs × (left.context.mode ≡ load → LoadEquivalently rs ran.records)

-- A module stands as certified where it is deterministic and, with its records and its reads, one of the certified
-- candidates.
abbrev pub CertifiedStand : Type 0
CertifiedStand =
    (site : Site) (ms : List Candidate) (m : SiteModule)
    → HasStanding site ms m Certified ↔ IsDeterministicAnd site m (λ c. IsAmong c (certified ms))

-- Each module of a site whose candidates are all deterministic modules has a standing.
abbrev pub EachStands : Type 0
EachStands =
    (site : Site) (ms : List Candidate) (m : SiteModule) → AreDeterministicModules site ms → IsOfSite site m
    → (standing : Standing) × HasStanding site ms m standing

-- It stands in one of the six ways alone.
abbrev pub OneStanding : Type 0
OneStanding =
    (site : Site) (ms : List Candidate) (m : SiteModule) (s t : Standing)
    → HasStanding site ms m s → HasStanding site ms m t → standing_word s ≡ standing_word t

-- each of these candidates is a deterministic module of the site, with its records and its reads
abbrev pub AreDeterministic : Site → List Candidate → Type 0
AreDeterministic site ms = (m : Candidate) → IsAmong m ms → IsDeterministicModule site m

-- What a certified module reads no certified one uses but another that is mutually exclusive with it: one of its name,
-- or one of which a conflict means it.
abbrev pub CertifiedReadFreely : Type 0
CertifiedReadFreely =
    (site : Site) (ms : List Candidate) (m n : Candidate) (v : Text) (x : VariableUse) → AreDeterministic site ms
    → IsCertified ms m → IsCertified ms n → Reads site (candidate_file m) v → Uses n.records v x
    → (is_other m n ≡ true)
    × ((m.name ≡ n.name) ⊎ (names_in_conflict (as_module n) (as_module m) ≡ true))

-- One of the modules has this name and this file, the start agrees with what it uses, and what it reads has in the start
-- the values of the environment at hand.
abbrev pub IsOneOf : Site → List Candidate → Environment → Text → Text → Type 0
IsOneOf site ms start name path =
    (m : Candidate) × IsAmong m ms × (m.name ≡ name) × (m.path ≡ path) × AgreesWith (used_by m.records) start
    × ReadsEquivalently site start (candidate_file m)

-- Each load is of one of the modules, by its name and its file, with whose uses the start agrees and whose reads have
-- their values in it. Nothing is asked of the records of the load.
abbrev pub LoadsAreOf : Site → List Candidate → Environment → List Move → Type 0
LoadsAreOf site ms start [] = Unit {0}
LoadsAreOf site ms start (Loads m ∷ moves) =
    IsOneOf site ms start m.name m.path × LoadsAreOf site ms start moves
LoadsAreOf site ms start (Unloads m ∷ moves) = LoadsAreOf site ms start moves

-- What a certificate promises of a site, for these modules. In a session over the files, the directories and the limits
-- of the site, in whatever shells, from a start whose loaded list is in order, each accepted load is of one of the
-- modules, with whose uses the start agrees and whose reads have in it the values of the environment at hand; and no
-- module that is loaded at the start is unloaded. Then each environment of the session is in order and is the start with
-- the live modules layered on it; with none it is the start.
abbrev pub CertificateHolds : Site → List Candidate → Type 0
CertificateHolds site certain =
    (start : Environment) (rs : List Request) (before after : List Response)
    → AreLoadedInOrder start → Session (over_site site) start rs (before ++ after)
    → AreNew start (session_moves (before ++ after)) → LoadsAreOf site certain start (session_moves (before ++ after))
    → Holds (uses_by (live_after [] (session_moves before))) start (live_after [] (session_moves before))
    (end_environment start before)

-- The theorem of sites: so it is for the certified ones of any candidates that are deterministic modules of the site,
-- however these were chosen. Nothing is asked of the records of loads and unloads, of their kinds, or of whether the
-- modules are compatible; of modules that aren't certified nothing at all, and the start agrees with what the session
-- loads alone.
abbrev pub SiteSessionsReturn : Type 0
SiteSessionsReturn =
    (site : Site) (ms : List Candidate) → AreDeterministic site ms → CertificateHolds site (certified ms)

-- The certificate holds for any modules that are certified, in whatever order an audit has them.
abbrev pub AuditsHold : Type 0
AuditsHold =
    (site : Site) (ms certain : List Candidate) → AreDeterministic site ms
    → ((m : Candidate) → IsAmong m certain → IsCertified ms m) → CertificateHolds site certain

-- what each of the modules reads has in the start the values of the environment at hand
abbrev pub AreReadEquivalently : Site → Environment → List Module → Type 0
AreReadEquivalently site start live = (m : Module) → IsAmong m live → ReadsEquivalently site start (file_of m)

-- One command, in whatever shell, which knows no history: it begins in an environment in order that is such a start
-- with certified modules layered on it.
abbrev pub SiteCommandsReturn : Type 0
SiteCommandsReturn =
    (site : Site) (ms : List Candidate) (shell : Shell) (start e : Environment) (live : List Module)
    (action : RequestedAction) (d : Done)
    → AreDeterministic site ms → AreLayered ms start live e → AreReadEquivalently site start live
    → RequestStep (in_shell (over_site site) shell) e action (Ok d) → AreNew start d.moves
    → LoadsAreOf site (certified ms) start d.moves
    → AreLayered ms start (live_after live d.moves) d.env × AreReadEquivalently site start (live_after live d.moves)
    × (live_after live d.moves ≡ [] → d.env ≡ start)

-- A change by hand keeps the agreement of the start with what a deterministic module uses, so that the module may be
-- loaded after the change if it might before: each way in which the module uses the changed variable allows the change,
-- and it parts a path as live modules do. So a change of a variable that the module doesn't use keeps it.
abbrev pub ChangesAgree : Type 0
ChangesAgree =
    (site : Site) (ms : List Candidate) (live : List Module) (start e : Environment) (m : Module) (c : HandChange)
    → HasDeterministicRecords site (file_of m) m.records → AgreesWith (used_by m.records) start → AreLayered ms start live e
    → IsHandChange (uses_by live) live e c
    → ((x : VariableUse) → Uses m.records c.variable x → MayChange (Some x) live e c)
    → ((d g : ℕ) → uses_by live c.variable ≡ Pathed d → Uses m.records c.variable (Pathed g) → g ≡ d)
    → AgreesWith (used_by m.records) (start_after (uses_by live) live start e c)

-- So does it keep the values of what a deterministic module reads, where it is a change of another variable.
abbrev pub ChangesLeaveReads : Type 0
ChangesLeaveReads =
    (site : Site) (ms : List Candidate) (live : List Module) (start e : Environment) (m : Module) (c : HandChange)
    → HasDeterministicRecords site (file_of m) m.records → ReadsEquivalently site start (file_of m) → AreLayered ms start live e
    → IsHandChange (uses_by live) live e c → (Reads site (file_of m) c.variable → ⊥)
    → ReadsEquivalently site (start_after (uses_by live) live start e c) (file_of m)
