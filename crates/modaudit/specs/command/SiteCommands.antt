-- Commands of certified modules, one after another, each in a shell that ran the texts of those before it (own).
use Rattle.std.specs.Prelude.{◌≡◌, List, [], ◌∷◌, map}
use Rattle.envvars.specs.Texts.{Text}
use Rattle.envvars.specs.Environment.{Environment}
use Rattle.envstate.specs.loaded_list.Loaded.{AreLoadedInOrder}
use Rattle.filetree.specs.Agreement.{Files, Listings}
use Rattle.modulefile.specs.Moves.{Module, Loads}
use Rattle.reversal.specs.Runs.{live_after}
use Rattle.reversal.specs.Laws.{Holds}
use Rattle.requests.specs.Returning.{AreNew}
use Rattle.audit_certificate.specs.RecordUses.{IsAmong, uses_by}
use Rattle.audit_certificate.specs.Candidates.{Candidate}
use Rattle.audit_certificate.specs.Certificates.{certified}
use Rattle.audit_certificate.specs.Laws.{AreLayered}
use Rattle.audit_laws.specs.site.Sites.{Site, site_of, Reads, file_of}
use Rattle.audit_laws.specs.site.Laws.{AreDeterministic, LoadsAreOf}
use Rattle.modulecmd.specs.Command.{standard}
use Rattle.requests.specs.hand_changes.Events.{Event, act, by_hand, moves_of, EventsReachWhile}
use Rattle.modulecmd.specs.Runs.{PrintedCommand, ShellsHold, moves_in, command_moves, CommandMakes}

-- the site that an environment has over these files and directories, judged under the limits of commands
abbrev pub judged_site : Environment → Files → Listings → Site
judged_site judged_in files listings = site_of standard judged_in files listings

-- These candidates are deterministic modules of the site. From a start whose loaded list is in order, after any
-- commands that load only certified ones with whose uses the start agrees and whose reads have in it the values of the
-- environment that was judged, and unload no module of the start: what the shell holds is in order and is the start
-- with the modules that are live then layered on it. With none it is the start.
abbrev pub SiteShellsReturn : Type 0
SiteShellsReturn =
    (judged_in : Environment) (files : Files) (listings : Listings) (ms : List Candidate) (start last : Environment)
    (cs : List PrintedCommand)
    → AreDeterministic (judged_site judged_in files listings) ms → AreLoadedInOrder start
    → ShellsHold files listings start cs last → AreNew start (moves_in cs)
    → LoadsAreOf (judged_site judged_in files listings) (certified ms) start (moves_in cs)
    → Holds (uses_by (live_after [] (moves_in cs))) start (live_after [] (moves_in cs)) last

-- the loads of a command are of these modules, with whose uses the start agrees, and whose reads have in it the values
-- of the environment that was judged
abbrev pub CommandLoads : Site → List Candidate → Environment → PrintedCommand → Type 0
CommandLoads site ms start c = LoadsAreOf site ms start (command_moves c)

-- None of the modules reads the variable.
abbrev pub IsUnread : Site → List Module → Text → Type 0
IsUnread site live v = (m : Module) → IsAmong m live → Reads site (file_of m) v → ⊥

-- Each change by hand is of a variable that no module reads which is live then.
abbrev pub HandsLeaveReads : Site → List Module → List (Event PrintedCommand) → Type 0
HandsLeaveReads site live [] = Unit {0}
HandsLeaveReads site live (act c ∷ events) = HandsLeaveReads site (live_after live (command_moves c)) events
HandsLeaveReads site live (by_hand c ∷ events) = IsUnread site live c.variable × HandsLeaveReads site live events

-- Commands with changes by hand between them. Each change follows the uses of the modules that are live then, and is of
-- a variable that none of them reads. A variable that none of them uses or reads may be changed freely. At each load it
-- is the start as changes have made it until then that agrees with what the module uses, and has of what it reads the
-- values of the environment that was judged. With no module live the shell holds what the same changes have made of the
-- start.
abbrev pub SiteShellsAndHandsReturn : Type 0
SiteShellsAndHandsReturn =
    (judged_in : Environment) (files : Files) (listings : Listings) (ms : List Candidate)
    (start last_start last : Environment) (events : List (Event PrintedCommand))
    → AreDeterministic (judged_site judged_in files listings) ms → AreLoadedInOrder start
    → EventsReachWhile command_moves (CommandMakes files listings) uses_by
    (CommandLoads (judged_site judged_in files listings) (certified ms)) [] start start events last_start last
    → AreNew start (moves_of command_moves events)
    → HandsLeaveReads (judged_site judged_in files listings) [] events
    → AreLayered ms last_start (live_after [] (moves_of command_moves events)) last
    × (live_after [] (moves_of command_moves events) ≡ [] → last ≡ last_start)

-- Commands alone are such events, which leave the start as it was, and what modules read.
abbrev pub SiteCommandsAreEvents : Type 0
SiteCommandsAreEvents =
    (site : Site) (files : Files) (listings : Listings) (certain : List Candidate) (start last : Environment)
    (cs : List PrintedCommand)
    → ShellsHold files listings start cs last → LoadsAreOf site certain start (moves_in cs)
    → EventsReachWhile command_moves (CommandMakes files listings) uses_by (CommandLoads site certain) [] start start
    (map act cs) start last
    × HandsLeaveReads site [] (map act cs)

-- Where no module that is loaded reads anything, as where all of them are plain, every change by hand leaves reads.
abbrev pub ReadlessAreLeft : Type 0
ReadlessAreLeft =
    (site : Site) (events : List (Event PrintedCommand))
    → ((m : Module) (v : Text) → IsAmong (Loads m) (moves_of command_moves events) → Reads site (file_of m) v → ⊥)
    → HandsLeaveReads site [] events
