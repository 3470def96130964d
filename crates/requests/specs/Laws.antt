-- The laws of requests and sessions (own): one outcome, moves that make the result, and sessions that return to the
-- start.
use Rattle.std.specs.Prelude.{◌≡◌, true, List, [], ◌++◌, map, Result, Ok}
use Rattle.std.specs.List.{list_all}
use Rattle.envvars.specs.Texts.{Text}
use Rattle.envvars.specs.Environment.{Environment}
use Rattle.modulefile.specs.Moves.{Module, all_moved, MovesReach}
use Rattle.reversal.specs.VariableUses.{VariableUse}
use Rattle.reversal.specs.Starts.{IsInOrder, IsStart, IsStartWith}
use Rattle.reversal.specs.Runs.{live_after, AreReversibleTogether}
use Rattle.reversal.specs.Requests as moves
use Rattle.reversal.specs.Laws.{Holds}
use Rattle.lookup.specs.DefaultFileResults.{HasResult}
use Rattle.search.specs.Listed.{Listing, Listed, selected_of}
use Rattle.requests.specs.Reasons.{RequestReason}
use Rattle.requests.specs.Requests.{RequestedAction, Request, load, unload, switch, purge, list, avail, show, whatis}
use Rattle.requests.specs.Reports.{avail_text}
use Rattle.requests.specs.Steps.{RequestContext, Done, RequestStep, nothing_done, with_report, modulepath}
use Rattle.requests.specs.Sessions.{Response, Session, end_environment, outcome_of, session_moves, is_decided}
use Rattle.requests.specs.Returning.{AreNew, AreReversibleBeside}
use Rattle.requests.specs.PlainRuns.{ArePlain}

-- A request has one outcome at most.
abbrev pub OneOutcome : Type 0
OneOutcome =
    (s : RequestContext) (e : Environment) (action : RequestedAction) (o p : Result Done RequestReason)
    → RequestStep s e action o → RequestStep s e action p → o ≡ p

-- a request other than `avail`
abbrev pub IsNotAvail : RequestedAction → Type 0
IsNotAvail (load names) = Unit {0}
IsNotAvail (unload names) = Unit {0}
IsNotAvail (switch old new) = Unit {0}
IsNotAvail purge = Unit {0}
IsNotAvail list = Unit {0}
IsNotAvail (avail texts) = ⊥
IsNotAvail (show names) = Unit {0}
IsNotAvail (whatis names) = Unit {0}

-- Each of these has an outcome.
abbrev pub SomeOutcome : Type 0
SomeOutcome =
    (s : RequestContext) (e : Environment) (action : RequestedAction) → IsNotAvail action
    → (o : Result Done RequestReason) × RequestStep s e action o

-- The moves of an accepted step take the environment to the one that results, and each fits where it is made.
abbrev pub StepsReach : Type 0
StepsReach =
    (s : RequestContext) (e : Environment) (action : RequestedAction) (d : Done) → RequestStep s e action (Ok d)
    → MovesReach d.moves e d.env

-- So the environment that results is the one that they make.
abbrev pub StepsAreTheirMoves : Type 0
StepsAreTheirMoves =
    (s : RequestContext) (e : Environment) (action : RequestedAction) (d : Done) → RequestStep s e action (Ok d)
    → all_moved d.moves e ≡ Ok d.env

-- a request that only reports
abbrev pub Reports : RequestedAction → Type 0
Reports (load names) = ⊥
Reports (unload names) = ⊥
Reports (switch old new) = ⊥
Reports purge = ⊥
Reports list = Unit {0}
Reports (avail texts) = Unit {0}
Reports (show names) = Unit {0}
Reports (whatis names) = Unit {0}

-- It changes no variable, and moves nothing.
abbrev pub ReportsChangeNothing : Type 0
ReportsChangeNothing =
    (s : RequestContext) (e : Environment) (action : RequestedAction) (d : Done) → Reports action
    → RequestStep s e action (Ok d)
    → (d.env ≡ e) × (d.moves ≡ [])

-- `avail` reports what its texts select of the listing of all modules.
abbrev pub SelectionsReported : Type 0
SelectionsReported =
    (s : RequestContext) (e : Environment) (texts : List Text) (listings : List Listing) (d : Done)
    → Listed (HasResult s.limits) s.files s.listings [] (modulepath e) listings
    → RequestStep s e (avail texts) (Ok d)
    → d ≡ with_report (nothing_done e) [] (avail_text (map (selected_of texts) listings))

-- A session is a run of what its requests moved.
abbrev pub SessionsRun : Type 0
SessionsRun =
    (s : RequestContext) (e : Environment) (rs : List Request) (os : List Response) → Session s e rs os
    → moves.RequestsReach (map outcome_of os) e (end_environment e os)

-- Its moves take the first environment to the last.
abbrev pub SessionsReach : Type 0
SessionsReach =
    (s : RequestContext) (e : Environment) (rs : List Request) (os : List Response) → Session s e rs os
    → MovesReach (session_moves os) e (end_environment e os)

-- Where nothing was given up it has one list of responses.
abbrev pub OneSession : Type 0
OneSession =
    (s : RequestContext) (e : Environment) (rs : List Request) (os ps : List Response)
    → list_all is_decided os ≡ true → list_all is_decided ps ≡ true → Session s e rs os → Session s e rs ps → os ≡ ps

-- A session of new modules that are reversible and apart, from a start in order: each environment of the session is in
-- order and is the start with the live modules layered on it. With none it is the start.
abbrev pub SessionsReturn : Type 0
SessionsReturn =
    (uses : Text → VariableUse) (s : RequestContext) (start : Environment) (rs : List Request)
    (before after : List Response)
    → IsStart uses start → Session s start rs (before ++ after)
    → AreNew start (session_moves (before ++ after)) → AreReversibleBeside uses [] (session_moves (before ++ after))
    → Holds uses start (live_after [] (session_moves before)) (end_environment start before)

-- A session of new modules whose files are plain, from a start in order. There is no premise about the records of
-- unloads.
abbrev pub PlainSessionsReturn : Type 0
PlainSessionsReturn =
    (uses : Text → VariableUse) (s : RequestContext) (start : Environment) (rs : List Request)
    (before after : List Response)
    → IsStart uses start → Session s start rs (before ++ after)
    → AreNew start (session_moves (before ++ after)) → ArePlain s uses [] (session_moves (before ++ after))
    → Holds uses start (live_after [] (session_moves before)) (end_environment start before)

-- One command, which knows no history: it begins in an environment in order, with live modules layered on a start in
-- order. The result is in order and is that start with the modules that are live then layered on it. With none it is
-- the start.
abbrev pub CommandsReturn : Type 0
CommandsReturn =
    (uses : Text → VariableUse) (s : RequestContext) (start e : Environment) (live : List Module)
    (action : RequestedAction)
    (d : Done)
    → IsStart uses start → IsInOrder uses e → IsStartWith uses start live e → AreReversibleTogether uses live
    → RequestStep s e action (Ok d) → AreNew start d.moves → AreReversibleBeside uses live d.moves
    → Holds uses start (live_after live d.moves) d.env × AreReversibleTogether uses (live_after live d.moves)
