-- The way back from commands of certified modules, for a shell that runs their texts (own). `purge` and `unload` are
-- those of module(1).
use Rattle.std.specs.Prelude.{◌≡◌, false, List, [], ◌∷◌, codes, Some, Ok}
use Rattle.envvars.specs.Texts.{Text}
use Rattle.envvars.specs.Environment.{Environment}
use Rattle.envstate.specs.loaded_list.Loaded.{Entry, loaded_in, AreLoadedInOrder}
use Rattle.shelltext.specs.declared.shell.Shell.{Shell}
use Rattle.shelltext.specs.Shells.{shell_named}
use Rattle.shelltext.specs.Reading.{TextMakes, SaysDifference}
use Rattle.filetree.specs.Agreement.{Files, Listings}
use Rattle.modulefile.specs.Moves.{Module}
use Rattle.reversal.specs.Live.{entries_over}
use Rattle.reversal.specs.Runs.{live_after}
use Rattle.requests.specs.Conditions.{has_lost}
use Rattle.requests.specs.Returning.{AreNew}
use Rattle.requests.specs.hand_changes.Events.{Event, moves_of, EventsReachWhile}
use Rattle.audit_certificate.specs.RecordUses.{IsAmong, uses_by}
use Rattle.audit_certificate.specs.Candidates.{Candidate}
use Rattle.audit_certificate.specs.Certificates.{certified}
use Rattle.audit_laws.specs.site.Sites.{Site}
use Rattle.audit_laws.specs.site.Laws.{AreDeterministic}
use Rattle.audit_laws.specs.returns.Unloads.{AreOfLive, without_all}
use Rattle.audit_laws.specs.returns.Laws.{AreLiveOver}
use Rattle.modulecmd.specs.Command.{CommandResult, CommandHasResult}
use Rattle.modulecmd.specs.Runs.{PrintedCommand, command_moves, CommandMakes}
use Rattle.modaudit.specs.command.SiteCommands.{judged_site, CommandLoads, HandsLeaveReads}

-- ---- sessions

-- A session of commands with changes by hand between them, over the files and directories of a site. The loaded list of
-- its start is in order. The start, as changes have made it until then, allows each command, and no module of the start
-- is unloaded. Each change by hand may be made beside the modules that are live then, and is of a variable that none of
-- them reads.
pub record IsSession (site : Site) (Allows : Environment → PrintedCommand → Type 0) (start last_start last : Environment)
    (events : List (Event PrintedCommand)) : Type 0 where
  pub order : AreLoadedInOrder start
  pub reach : EventsReachWhile command_moves (CommandMakes site.files site.listings) uses_by Allows [] start start events
      last_start last
  pub new : AreNew start (moves_of command_moves events)
  pub unread : HandsLeaveReads site [] events

-- the modules that are live at the end of a session
abbrev pub live_at_end : List (Event PrintedCommand) → List Module
live_at_end events = live_after [] (moves_of command_moves events)

-- The session leaves these certified modules live over the last start. There the same modules are loaded as at the first.
pub record LeavesLive (site : Site) (ms : List Candidate) (start last_start last : Environment) (live : List Module) : Type 0
  where
    pub over : AreLiveOver site ms last_start live last
    pub loaded : loaded_in last_start ≡ loaded_in start

-- ---- commands that lead back

-- The command with these arguments leads from one environment to another: its step accepts and makes the other one, and
-- so does a shell that runs any text which says exactly what changes.
pub record LeadsTo (files : Files) (listings : Listings) (arguments : List Text) (e back : Environment) : Type 0 where
  pub effect : CommandResult
  pub accepted : CommandHasResult arguments e files listings (Ok effect)
  pub made : effect.1.env ≡ back
  pub run : (text : Text) (next : Environment) → SaysDifference effect.0 text e effect.1.env
      → TextMakes effect.0 text e next → next ≡ back

-- so does the command with these words, from the subcommand on, in each shell
abbrev pub LeadInEachShell : Files → Listings → List Text → Environment → Environment → Type 0
LeadInEachShell files listings words e back =
    (word : Text) (shell : Shell) → shell_named word ≡ Some shell → LeadsTo files listings (word ∷ words) e back

-- The unload of these names takes all live modules and no other, whatever the order of the names, and no module of the
-- start loses what it needs.
pub record UnloadsAll (last_start : Environment) (live : List Module) (names : List Text) : Type 0 where
  pub first : List Entry
  pub loaded : loaded_in last_start ≡ Some first
  pub of_live : AreOfLive first names live
  pub all : without_all names live ≡ []
  pub unneeded : (x : Entry) → IsAmong x first → has_lost (entries_over first live) first x ≡ false

-- The way back is open. In each shell `purge` leads back, if no module is loaded at the start; and over any start, if it is
-- accepted there, it leads to what it makes of the start. The unload of some names leads back over any start, if it takes
-- all live modules and no other, and no module of the start needs one.
pub record IsWayBackOpen (files : Files) (listings : Listings) (live : List Module) (last back : Environment) : Type 0
  where
    pub purge : loaded_in back ≡ Some [] → LeadInEachShell files listings (codes "purge" ∷ []) last back
    pub purge_of_all : (word : Text) (shell : Shell) (effect : CommandResult) → shell_named word ≡ Some shell
        → CommandHasResult (word ∷ codes "purge" ∷ []) back files listings (Ok effect)
        → LeadsTo files listings (word ∷ codes "purge" ∷ []) last effect.1.env
    pub unload : (name : Text) (names : List Text) → UnloadsAll back live (name ∷ names)
        → LeadInEachShell files listings (codes "unload" ∷ name ∷ names) last back

-- ---- laws

-- These candidates are deterministic modules of the site. After any session that loads only certified ones, they are live
-- over the last start. So what is proved of one command and of unloads applies there.
abbrev pub SiteSessionsLayer : Type 0
SiteSessionsLayer =
    (judged_in : Environment) (files : Files) (listings : Listings) (ms : List Candidate)
    (start last_start last : Environment) (events : List (Event PrintedCommand))
    → AreDeterministic (judged_site judged_in files listings) ms
    → IsSession (judged_site judged_in files listings) (CommandLoads (judged_site judged_in files listings) (certified ms))
    start last_start last events
    → LeavesLive (judged_site judged_in files listings) ms start last_start last (live_at_end events)

-- At the end of each such session the way back to the last start is open: to what the changes by hand have made of the
-- start.
abbrev pub SiteWayBackIsOpen : Type 0
SiteWayBackIsOpen =
    (judged_in : Environment) (files : Files) (listings : Listings) (ms : List Candidate)
    (start last_start last : Environment) (events : List (Event PrintedCommand))
    → AreDeterministic (judged_site judged_in files listings) ms
    → IsSession (judged_site judged_in files listings) (CommandLoads (judged_site judged_in files listings) (certified ms))
    start last_start last events
    → IsWayBackOpen files listings (live_at_end events) last last_start
