-- What the report of modaudit promises of a shell (own): the chain from the modules that it calls certified to what a shell
-- holds after commands that load only these.
use Rattle.std.specs.Prelude.{◌≡◌, ℕ, Bool, List, [], ◌∷◌, ◌++◌}
use Rattle.envvars.specs.Texts.{Text, texts_in}
use Rattle.envvars.specs.Environment.{Environment}
use Rattle.filetree.specs.Agreement.{Files, Listings}
use Rattle.filetree.specs.hiding.Hidden.{AgreesWithout}
use Rattle.modulefile.specs.Moves.{Move, Loads, Unloads}
use Rattle.reversal.specs.Runs.{live_after}
use Rattle.requests.specs.Returning.{AreNew}
use Rattle.requests.specs.hand_changes.Events.{Event}
use Rattle.audit_certificate.specs.RecordUses.{IsAmong}
use Rattle.audit_laws.specs.site.Sites.{Site, file_of}
use Rattle.audit_laws.specs.site.Extended.{IsExtendedBy}
use Rattle.audit_site.specs.Audits.{certified_files}
use Rattle.audit_site.specs.declared.auditing.SiteAudit.{SiteAudit}
use Rattle.audit_report.specs.declared.readable.ReadableAudit.{ReadableAudit}
use Rattle.modulecmd.specs.Runs.{PrintedCommand, ShellsHold, command_moves, moves_in}
use Rattle.modaudit.specs.command.Arguments.{Wanted}
use Rattle.modaudit.specs.command.Audits.{IsAudited, judged_env}
use Rattle.modaudit.specs.command.SiteCommands.{judged_site}
use Rattle.modaudit.specs.command.WayBack.{IsSession, live_at_end}
use Rattle.modaudit.specs.command.Moments.{IsReported, HoldsAtMoment}

-- ---- what may be loaded

-- each load is of such a module, by its name and its file
abbrev pub LoadsAreReported : Site → SiteAudit → Environment → List Move → Type 0
LoadsAreReported site found start [] = Unit {0}
LoadsAreReported site found start (Loads m ∷ moves) =
    IsReported site found start (file_of m) × LoadsAreReported site found start moves
LoadsAreReported site found start (Unloads m ∷ moves) = LoadsAreReported site found start moves

-- so it is for each load of a command
abbrev pub CommandLoadsReported : Site → SiteAudit → Environment → PrintedCommand → Type 0
CommandLoadsReported site found start c = LoadsAreReported site found start (command_moves c)

-- each load is of a module that the report calls certified, whatever the start
abbrev pub LoadsAreNamed : SiteAudit → List Move → Type 0
LoadsAreNamed found [] = Unit {0}
LoadsAreNamed found (Loads m ∷ moves) =
    IsAmong (file_of m) (certified_files found.modules.items) × LoadsAreNamed found moves
LoadsAreNamed found (Unloads m ∷ moves) = LoadsAreNamed found moves

-- ---- what may be there

-- These files and directories have all that the audit read: they extend a pair of maps that agrees with its tree, without
-- the paths that it couldn't read. There may be more, such as what another user can read at those paths.
pub record HasAllThatWasRead (agrees : Files → Listings → Type 0) (unreadable : List Text) (files : Files)
    (listings : Listings) : Type 0 where
  pub read_files : Files
  pub read_listings : Listings
  pub agree : AgreesWithout unreadable agrees read_files read_listings
  pub extended : IsExtendedBy read_files read_listings files listings

-- the environment of the audit: that at hand, with the directories of the arguments, if there are any, as its MODULEPATH
abbrev pub audited_env : Environment → Wanted → Environment
audited_env e wanted = judged_env e wanted.directories

-- its site over these maps, under the limits of commands
abbrev pub reported_site : Environment → Wanted → Files → Listings → Site
reported_site e wanted files listings = judged_site (audited_env e wanted) files listings

-- ---- the laws

-- modaudit audited a tree in an environment and reported certified modules. Over files and directories that have all that
-- it read, take any session of commands that loads only reported modules, with changes by hand between the commands. If
-- none of these modules is live at the end, the shell holds what the same changes have made of the start. At the end the
-- way back to it is open, and unloads, loads and switches are refused only for what is loaded or for a full counter.
abbrev pub ReportedModulesReturn : (Files → Listings → Type 0) → (Text → Bool) → Type 0
ReportedModulesReturn agrees has_failed =
    (before now : ℕ) (e : Environment) (not_utf8 arguments : List Text) (wanted : Wanted) (audit : ReadableAudit)
    (files : Files) (listings : Listings) (start last_start last : Environment) (events : List (Event PrintedCommand))
    → IsAudited agrees has_failed before now e not_utf8 arguments wanted audit
    → HasAllThatWasRead agrees (texts_in audit.unreadable) files listings
    → IsSession (reported_site e wanted files listings)
    (CommandLoadsReported (reported_site e wanted files listings) audit.found) start last_start last events
    → HoldsAtMoment (reported_site e wanted files listings) audit.found (live_at_end events) last last_start

-- A beginning of such a session is such a session. So what holds at the end of each holds at each moment of one.
abbrev pub MomentsAreSessions : Type 0
MomentsAreSessions =
    (site : Site) (found : SiteAudit) (start last_start last : Environment) (before after : List (Event PrintedCommand))
    → IsSession site (CommandLoadsReported site found) start last_start last (before ++ after)
    → (now_start now : Environment) × IsSession site (CommandLoadsReported site found) start now_start now before

-- Files and directories that agree with the tree of the audit, also for a user who can read more of it, have all that was
-- read.
abbrev pub TreesHaveAllThatWasRead : (Files → Listings → Type 0) → Type 0
TreesHaveAllThatWasRead agrees =
    (unreadable : List Text) (files : Files) (listings : Listings) → agrees files listings
    → HasAllThatWasRead agrees unreadable files listings

-- The environment of the audit is such a start for all reported modules, if the report says that it agrees with the
-- certificate. From there this holds after any commands that load only reported modules, and unload none that was loaded
-- there: nothing else is asked of the start.
abbrev pub AuditedStartReturns : (Files → Listings → Type 0) → (Text → Bool) → Type 0
AuditedStartReturns agrees has_failed =
    (before now : ℕ) (e : Environment) (not_utf8 arguments : List Text) (wanted : Wanted) (audit : ReadableAudit)
    (files : Files) (listings : Listings) (last : Environment) (cs : List PrintedCommand)
    → IsAudited agrees has_failed before now e not_utf8 arguments wanted audit
    → HasAllThatWasRead agrees (texts_in audit.unreadable) files listings → audit.found.disagreements.items ≡ []
    → ShellsHold files listings (audited_env e wanted) cs last
    → AreNew (audited_env e wanted) (moves_in cs) → LoadsAreNamed audit.found (moves_in cs)
    → HoldsAtMoment (reported_site e wanted files listings) audit.found (live_after [] (moves_in cs)) last
    (audited_env e wanted)
