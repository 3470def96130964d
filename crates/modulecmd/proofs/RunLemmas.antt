-- Commands one after another, with changes by hand between them, by the law of one command.
use Rattle.std.proofs.Common.{◌≡◌, List, [], ◌∷◌, ◌++◌, map, Result, Ok, Err, refl, sym, ap, subst}
use Rattle.envvars.specs.Texts.{Text}
use Rattle.envvars.specs.Environment.{Environment}
use Rattle.filetree.specs.Agreement.{Files, Listings}
use Rattle.modulefile.specs.Moves.{Module, Move}
use Rattle.shelltext.specs.Reading.{OneEffect, DifferenceMakes, SaysDifference}
use Rattle.reversal.specs.VariableUses.{VariableUse}
use Rattle.reversal.specs.Runs.{live_after}
use Rattle.reversal.specs.Laws.{Holds, RunsReturn}
use Rattle.requests.specs.Laws as requests
use Rattle.requests.specs.Reasons.{RequestReason}
use Rattle.requests.specs.Requests.{Request}
use Rattle.requests.specs.Returning.{AreNew, AreReversibleBeside}
use Rattle.requests.specs.Steps.{Done, RequestStep, request_context_in}
use Rattle.modulecmd.specs.Command.{CommandResult, CommandHasResult, standard, with_shell}
use Rattle.modulecmd.specs.Output.{ReturnsToStart}
use Rattle.requests.specs.hand_changes.HandChanges.{start_after}
use Rattle.requests.specs.hand_changes.Events.{act, moves_of, EventsReachWhile}
use Rattle.requests.specs.hand_changes.Laws.{OneChangeHolds}
use Rattle.requests.proofs.hand_changes.EventLemmas.{new_kept, all_kept}
use Rattle.requests.proofs.hand_changes.Sessions.{Stands, stands_at_start, Coming, acts_keep}
use Rattle.modulecmd.specs.Runs.{PrintedCommand, ShellsHold, moves_in, ShellsReturn, command_moves, CommandMakes}
use Rattle.modulecmd.specs.Runs.{ShellsAndHandsReturn, CommandsAreEvents, CommandAfterChange}
use Rattle.modulecmd.proofs.CommandLemmas.{returns_to_start}

-- ---- one command

step_back : requests.CommandsReturn → OneEffect → DifferenceMakes
    → (e : Environment) (files : Files) (listings : Listings) (r : Request) (f : CommandResult) (text : Text)
    (step : Result Done RequestReason)
    → RequestStep (request_context_in standard r.0 files listings) e r.1 step → Ok f ≡ with_shell r.0 step → SaysDifference f.0 text e f.1.env → ReturnsToStart e f text
step_back returns one makes e files listings r f text (Err reason) h is says = absurd (cc)
step_back returns one makes e files listings r f text (Ok done) h is says =
    let same : (r.0, done) ≡ f = (let q : Ok f ≡ Ok (r.0, done) = is in cc) in
    subst (λ (x : CommandResult). SaysDifference x.0 text e x.1.env → ReturnsToStart e x text) same
    (λ standard_error_text. returns_to_start returns one makes (request_context_in standard r.0 files listings) e r.1 (r.0, done) text h standard_error_text) says

command_back : requests.CommandsReturn → OneEffect → DifferenceMakes → (arguments : List Text) (e : Environment) (files : Files) (listings : Listings) (f : CommandResult) (text : Text)
    → CommandHasResult arguments e files listings (Ok f) → SaysDifference f.0 text e f.1.env → ReturnsToStart e f text
command_back returns one makes arguments e files listings f text (Err reason, is, h) says = absurd (let q : Ok f ≡ Err reason = h in cc)
command_back returns one makes arguments e files listings f text (Ok r, is, (step, h, same)) says = step_back returns one makes e files listings r f text step h same says

-- ---- all of them, with changes by hand between them

command_stands : requests.CommandsReturn → OneEffect → DifferenceMakes → (uses : Text → VariableUse) (files : Files) (listings : Listings) (live : List Module)
    (start e next : Environment) (c : PrintedCommand) → Stands uses live start e → Coming uses live start (command_moves c) → CommandMakes files listings c e next
    → Stands uses (live_after live (command_moves c)) start next
command_stands returns one makes uses files listings live start e next c stands coming (does, says, made) =
    let h = command_back returns one makes c.arguments e files listings c.effect c.text does says uses start next live stands.0 stands.1.order
    stands.1.start_with_live stands.2 coming.0 coming.1 made in
    (stands.0, h.0, h.1)

pub shells_and_hands_return : RunsReturn → requests.CommandsReturn → OneEffect → DifferenceMakes → OneChangeHolds → ShellsAndHandsReturn
shells_and_hands_return runs returns one makes change uses files listings start last_start last events begins reach news fits =
    let p = all_kept command_moves (CommandMakes files listings) (λ live. uses) (λ b a. Unit {0}) (Stands uses) (Coming uses)
    (acts_keep change command_moves (CommandMakes files listings) uses (command_stands returns one makes uses files listings))
    events [] start start last_start last (stands_at_start runs uses start begins) (news, fits) reach in
    (p.0, p.1, p.2)

-- ---- commands alone

-- each of the commands is allowed by the start
abbrev pub AllAllowed : (Environment → PrintedCommand → Type 0) → Environment → List PrintedCommand → Type 0
AllAllowed Allows start [] = Unit {0}
AllAllowed Allows start (c ∷ cs) = Allows start c × AllAllowed Allows start cs

pub alone : (uses_while : List Module → Text → VariableUse) (Allows : Environment → PrintedCommand → Type 0) (files : Files) (listings : Listings) (start : Environment)
    (cs : List PrintedCommand) (live : List Module) (e last : Environment) → AllAllowed Allows start cs → ShellsHold files listings e cs last
    → EventsReachWhile command_moves (CommandMakes files listings) uses_while Allows live start e (map act cs) start last
alone uses_while Allows files listings start [] live e last all h = (refl, h)
alone uses_while Allows files listings start (c ∷ cs) live e last all (does, says, next, made, after) =
    (all.0, (next, (does, says, made), alone uses_while Allows files listings start cs (live_after live (command_moves c)) next last all.1 after))

nothing_asked : (start : Environment) (cs : List PrintedCommand) → AllAllowed (λ b a. Unit {0}) start cs
nothing_asked start [] = tt
nothing_asked start (c ∷ cs) = (tt, nothing_asked start cs)

pub same_moves : (cs : List PrintedCommand) → moves_of command_moves (map act cs) ≡ moves_in cs
same_moves [] = refl
same_moves (c ∷ cs) = ap (λ (ms : List Move). command_moves c ++ ms) (same_moves cs)

pub commands_are_events : CommandsAreEvents
commands_are_events uses files listings start last cs h = (alone (λ live. uses) (λ b a. Unit {0}) files listings start cs [] start last (nothing_asked start cs) h, same_moves cs)

pub commands_return : RunsReturn → requests.CommandsReturn → OneEffect → DifferenceMakes → OneChangeHolds → ShellsReturn
commands_return runs returns one makes change uses files listings start last cs begins holds news fits =
    let q : moves_of command_moves (map act cs) ≡ moves_in cs = same_moves cs in
    subst (λ (ms : List Move). Holds uses start (live_after [] ms) last) q
    (shells_and_hands_return runs returns one makes change uses files listings start start last (map act cs) begins
    (alone (λ live. uses) (λ b a. Unit {0}) files listings start cs [] start last (nothing_asked start cs) holds)
    (subst (AreNew start) (sym q) news) (subst (AreReversibleBeside uses []) (sym q) fits)).1

-- ---- one command after a change by hand

pub command_after_change : OneChangeHolds → CommandAfterChange
command_after_change change uses start e next live c effect text begins order over fit may back news fits made =
    let p = change uses start e live c begins order over may in
    let q = back uses (start_after uses live start e c) next live p.begins p.holds.order p.holds.start_with_live fit
    (new_kept start (start_after uses live start e c) effect.1.moves p.loaded news) fits made in
    (p.begins, q.0, q.1)
