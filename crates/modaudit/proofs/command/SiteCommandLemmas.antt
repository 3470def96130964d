-- Commands of certified modules one after another, with changes by hand between them, by the law of one command.
use Rattle.std.proofs.Common.{◌≡◌, inl, inr, Bool, true, false, cond, List, [], ◌∷◌, ◌++◌, map, Result, Ok, Err, refl}
use Rattle.std.proofs.Common.{sym, ap, ◌∙◌, subst}
use Rattle.std.specs.Prelude.{bytes_eq}
use Rattle.envvars.specs.Texts.{Text}
use Rattle.envvars.specs.Environment.{Environment}
use Rattle.filetree.specs.Agreement.{Files, Listings}
use Rattle.envstate.specs.loaded_list.Loaded.{loaded_in, AreLoadedInOrder}
use Rattle.modulefile.specs.Moves.{Module, Move, Loads, Unloads}
use Rattle.shelltext.specs.Reading.{OneEffect, DifferenceMakes}
use Rattle.reversal.specs.Runs.{without_live, live_after}
use Rattle.reversal.specs.Laws.{Holds}
use Rattle.requests.specs.Reasons.{RequestReason}
use Rattle.requests.specs.Requests.{Request}
use Rattle.requests.specs.Returning.{AreNew}
use Rattle.requests.specs.Steps.{Done, RequestStep, request_context_in}
use Rattle.audit_certificate.specs.RecordUses.{IsAmong, uses_by}
use Rattle.audit_certificate.specs.Candidates.{Candidate, as_module}
use Rattle.audit_certificate.specs.Certificates.{certified}
use Rattle.audit_certificate.specs.Laws.{IsAsCertified, AreCertifiedTogether, AreLayered, NoneIsLayered}
use Rattle.audit_laws.specs.site.Sites.{Site, SiteModule, Reads, ReadsEquivalently, file_of, candidate_file}
use Rattle.audit_laws.specs.site.Laws.{AreDeterministic, LoadsAreOf, AreReadEquivalently, SiteCommandsReturn, ChangesLeaveReads}
use Rattle.modulecmd.specs.Command.{CommandResult, CommandHasResult, standard, with_shell}
use Rattle.requests.specs.hand_changes.HandChanges.{HandChange, changed, IsHandChange, start_after}
use Rattle.requests.specs.hand_changes.Events.{Event, act, by_hand, moves_of, EventsReachWhile}
use Rattle.requests.specs.hand_changes.Laws.{OneChangeHolds}
use Rattle.requests.proofs.hand_changes.EventLemmas.{live_together, new_parts, new_kept}
use Rattle.modulecmd.specs.Runs.{PrintedCommand, moves_in, command_moves, CommandMakes}
use Rattle.modaudit.specs.command.SiteCommands.{judged_site, CommandLoads, IsUnread, HandsLeaveReads}
use Rattle.modaudit.specs.command.SiteCommands.{SiteShellsReturn, SiteShellsAndHandsReturn, SiteCommandsAreEvents, ReadlessAreLeft}
use Rattle.modulecmd.proofs.RunLemmas.{AllAllowed, alone, same_moves}

-- ---- one command

-- the request of a command, with the step that has its effect
pub step_at : (e : Environment) (files : Files) (listings : Listings) (r : Request) (f : CommandResult) (step : Result Done RequestReason)
    → RequestStep (request_context_in standard r.0 files listings) e r.1 step → Ok f ≡ with_shell r.0 step → RequestStep (request_context_in standard r.0 files listings) e r.1 (Ok f.1)
step_at e files listings r f (Err reason) h is = absurd (cc)
step_at e files listings r f (Ok done) h is =
    let same : (r.0, done) ≡ f = (let q : Ok f ≡ Ok (r.0, done) = is in cc) in
    subst (λ (x : CommandResult). RequestStep (request_context_in standard r.0 files listings) e r.1 (Ok x.1)) same h

pub step_of : (arguments : List Text) (e : Environment) (files : Files) (listings : Listings) (f : CommandResult) → CommandHasResult arguments e files listings (Ok f)
    → (r : Request) × RequestStep (request_context_in standard r.0 files listings) e r.1 (Ok f.1)
step_of arguments e files listings f (Err reason, is, h) = absurd (let q : Ok f ≡ Err reason = h in cc)
step_of arguments e files listings f (Ok r, is, (step, h, same)) = (r, step_at e files listings r f step h same)

-- ---- all of them, with changes by hand between them

abbrev pub Stands : Site → List Candidate → List Module → Environment → Environment → Type 0
Stands site ms live start e = AreLayered ms start live e × AreReadEquivalently site start live × (live ≡ [] → e ≡ start)

command_stands : SiteCommandsReturn → OneEffect → DifferenceMakes → (judged_in : Environment) (files : Files) (listings : Listings) (ms : List Candidate)
    → AreDeterministic (judged_site judged_in files listings) ms → (live : List Module) (start e next : Environment) (c : PrintedCommand)
    → Stands (judged_site judged_in files listings) ms live start e → AreNew start (command_moves c)
    → CommandLoads (judged_site judged_in files listings) (certified ms) start c → CommandMakes files listings c e next
    → Stands (judged_site judged_in files listings) ms (live_after live (command_moves c)) start next
command_stands returns one makes judged_in files listings ms all live start e next c stands news loads (does, says, made) =
    let r = step_of c.arguments e files listings c.effect does in
    let h = returns (judged_site judged_in files listings) ms r.0.0 start e live r.0.1 c.effect.1 all stands.0 stands.1 r.1 news loads in
    let same : c.effect.1.env ≡ next = one c.effect.0 c.text e c.effect.1.env next (makes c.effect.0 c.text e c.effect.1.env says) made in
    subst (Stands (judged_site judged_in files listings) ms (live_after live (command_moves c)) start) same h

live_certified : (ms : List Candidate) (live : List Module) (m : Module) → AreCertifiedTogether ms live → IsAmong m live → IsAsCertified ms m
live_certified ms [] m t a = absurd a
live_certified ms (l ∷ live) m t (inl e) = subst (IsAsCertified ms) (sym e) t.0
live_certified ms (l ∷ live) m t (inr a) = live_certified ms live m t.2 a

same_file : (m : Module) (c : Candidate) → c.name ≡ m.name → c.path ≡ m.path → candidate_file c ≡ file_of m
same_file m c name path = λ i. record { name = name i; path = path i }

-- what a live module reads keeps its values
reads_left : ChangesLeaveReads → (site : Site) (ms : List Candidate) (live : List Module) (start e : Environment) (c : HandChange) → AreDeterministic site ms → AreLayered ms start live e
    → IsHandChange (uses_by live) live e c → IsUnread site live c.variable → AreReadEquivalently site start live → AreReadEquivalently site (start_after (uses_by live) live start e c) live
reads_left leave site ms live start e c all layered may unread alike m a =
    let k = live_certified ms live m layered.together a in
    let same = same_file m k.certain k.name k.path in
    subst (ReadsEquivalently site (start_after (uses_by live) live start e c)) same
    (leave site ms live start e (as_module k.certain) c (all k.certain k.certified.listed).records
    (subst (ReadsEquivalently site start) (sym same) (alike m a)) layered may
    (λ r. unread m a (subst (λ (f : SiteModule). Reads site f c.variable) same r)))

change_stands : OneChangeHolds → ChangesLeaveReads → (site : Site) (ms : List Candidate) → AreDeterministic site ms
    → (live : List Module) (start e : Environment) (c : HandChange) (more : List Move) → Stands site ms live start e → AreNew start more
    → IsHandChange (uses_by live) live e c → IsUnread site live c.variable
    → Stands site ms live (start_after (uses_by live) live start e c) (changed c e) × AreNew (start_after (uses_by live) live start e c) more
    × (loaded_in (start_after (uses_by live) live start e c) ≡ loaded_in start)
change_stands change leave site ms all live start e c more stands news may unread =
    let s = stands.0 in
    let p = change (uses_by live) start e live c s.begins s.order s.start_with_live may in
    let alike = reads_left leave site ms live start e c all s may unread stands.1 in (
      (record { together = s.together; begins = p.begins; order = p.holds.order; start_with_live = p.holds.start_with_live }, alike, p.holds.returned),
      new_kept start (start_after (uses_by live) live start e c) more p.loaded news,
      p.loaded,
    )

events_stand : SiteCommandsReturn → OneEffect → DifferenceMakes → OneChangeHolds → ChangesLeaveReads
    → (judged_in : Environment) (files : Files) (listings : Listings) (ms : List Candidate) → AreDeterministic (judged_site judged_in files listings) ms
    → (events : List (Event PrintedCommand)) (live : List Module) (start e last_start last : Environment)
    → Stands (judged_site judged_in files listings) ms live start e → AreNew start (moves_of command_moves events)
    → HandsLeaveReads (judged_site judged_in files listings) live events
    → EventsReachWhile command_moves (CommandMakes files listings) uses_by (CommandLoads (judged_site judged_in files listings) (certified ms)) live start e events last_start last
    → Stands (judged_site judged_in files listings) ms (live_after live (moves_of command_moves events)) last_start last × (loaded_in last_start ≡ loaded_in start)
events_stand returns one makes change leave judged_in files listings ms all [] live start e last_start last stands news unread h = (
  subst (λ (b : Environment). Stands (judged_site judged_in files listings) ms live b last) (sym h.0)
      (subst (Stands (judged_site judged_in files listings) ms live start) (sym h.1) stands),
  ap loaded_in h.0,
)
events_stand returns one makes change leave judged_in files listings ms all (act c ∷ events) live start e last_start last stands news unread (loads, (next, made, after)) =
    let n = new_parts start (command_moves c) (moves_of command_moves events) news in
    let p = command_stands returns one makes judged_in files listings ms all live start e next c stands n.0 loads made in
    let rest = events_stand returns one makes change leave judged_in files listings ms all events (live_after live (command_moves c)) start next last_start last p n.1 unread after in (
      subst (λ (l : List Module). Stands (judged_site judged_in files listings) ms l last_start last)
          (sym (live_together live (command_moves c) (moves_of command_moves events))) rest.0,
      rest.1,
    )
events_stand returns one makes change leave judged_in files listings ms all (by_hand c ∷ events) live start e last_start last stands news unread (may, after) =
    let p = change_stands change leave (judged_site judged_in files listings) ms all live start e c (moves_of command_moves events) stands news may unread.0 in
    let rest = events_stand returns one makes change leave judged_in files listings ms all events live (start_after (uses_by live) live start e c) (changed c e)
    last_start last p.0 p.1 unread.1 after in
    (rest.0, rest.1 ∙ p.2)

-- what is left live at the end of a session
pub site_events_stand : NoneIsLayered → SiteCommandsReturn → OneEffect → DifferenceMakes → OneChangeHolds → ChangesLeaveReads
    → (judged_in : Environment) (files : Files) (listings : Listings) (ms : List Candidate) (start last_start last : Environment) (events : List (Event PrintedCommand))
    → AreDeterministic (judged_site judged_in files listings) ms → AreLoadedInOrder start
    → EventsReachWhile command_moves (CommandMakes files listings) uses_by (CommandLoads (judged_site judged_in files listings) (certified ms)) [] start start events last_start last
    → AreNew start (moves_of command_moves events) → HandsLeaveReads (judged_site judged_in files listings) [] events
    → Stands (judged_site judged_in files listings) ms (live_after [] (moves_of command_moves events)) last_start last × (loaded_in last_start ≡ loaded_in start)
site_events_stand begins returns one makes change leave judged_in files listings ms start last_start last events all order reach news unread =
    events_stand returns one makes change leave judged_in files listings ms all events [] start start last_start last
    (begins ms start order, (λ m a. absurd a), (λ n. refl)) news unread reach

pub site_shells_and_hands_return : NoneIsLayered → SiteCommandsReturn → OneEffect → DifferenceMakes → OneChangeHolds → ChangesLeaveReads → SiteShellsAndHandsReturn
site_shells_and_hands_return begins returns one makes change leave judged_in files listings ms start last_start last events all order reach news unread =
    let p = site_events_stand begins returns one makes change leave judged_in files listings ms start last_start last events all order reach news unread in
    (p.0.0, p.0.2)

-- ---- commands alone

loads_parts : (site : Site) (ms : List Candidate) (start : Environment) (moves more : List Move) → LoadsAreOf site ms start (moves ++ more)
    → LoadsAreOf site ms start moves × LoadsAreOf site ms start more
loads_parts site ms start [] more h = (tt, h)
loads_parts site ms start (Loads m ∷ moves) more h = let p = loads_parts site ms start moves more h.1 in ((h.0, p.0), p.1)
loads_parts site ms start (Unloads m ∷ moves) more h = loads_parts site ms start moves more h

all_load : (site : Site) (ms : List Candidate) (start : Environment) (cs : List PrintedCommand) → LoadsAreOf site ms start (moves_in cs) → AllAllowed (CommandLoads site ms) start cs
all_load site ms start [] h = tt
all_load site ms start (c ∷ cs) h = let p = loads_parts site ms start (command_moves c) (moves_in cs) h in (p.0, all_load site ms start cs p.1)

pub commands_leave : (site : Site) (live : List Module) (cs : List PrintedCommand) → HandsLeaveReads site live (map act cs)
commands_leave site live [] = tt
commands_leave site live (c ∷ cs) = commands_leave site (live_after live (command_moves c)) cs

pub site_commands_are_events : SiteCommandsAreEvents
site_commands_are_events site files listings certain start last cs h loads = (
  alone uses_by (CommandLoads site certain) files listings start cs [] start last (all_load site certain start cs loads) h,
  commands_leave site [] cs,
)

pub site_shells_return : NoneIsLayered → SiteCommandsReturn → OneEffect → DifferenceMakes → OneChangeHolds → ChangesLeaveReads → SiteShellsReturn
site_shells_return begins returns one makes change leave judged_in files listings ms start last cs all order holds news loads =
    let q : moves_of command_moves (map act cs) ≡ moves_in cs = same_moves cs in
    let events = site_commands_are_events (judged_site judged_in files listings) files listings (certified ms) start last cs holds loads in
    let s = site_shells_and_hands_return begins returns one makes change leave judged_in files listings ms start start last (map act cs) all order
    events.0 (subst (AreNew start) (sym q) news) events.1 in
    subst (λ (moves : List Move). Holds (uses_by (live_after [] moves)) start (live_after [] moves) last) q
    (record { order = s.0.order; start_with_live = s.0.start_with_live; returned = s.1 })

-- ---- modules that read nothing

abbrev ReadNothing : Site → List Module → Type 0
ReadNothing site live = (m : Module) (v : Text) → IsAmong m live → Reads site (file_of m) v → ⊥

abbrev LoadNothingThatReads : Site → List Move → Type 0
LoadNothingThatReads site moves = (m : Module) (v : Text) → IsAmong (Loads m) moves → Reads site (file_of m) v → ⊥

among_front : (x : Move) (moves more : List Move) → IsAmong x moves → IsAmong x (moves ++ more)
among_front x [] more a = absurd a
among_front x (y ∷ moves) more (inl e) = inl e
among_front x (y ∷ moves) more (inr a) = inr (among_front x moves more a)

among_back : (x : Move) (moves more : List Move) → IsAmong x more → IsAmong x (moves ++ more)
among_back x [] more a = a
among_back x (y ∷ moves) more a = inr (among_back x moves more a)

left_at : (m l : Module) (live rest : List Module) (b : Bool) → IsAmong l (cond b live (m ∷ rest)) → (IsAmong l rest → IsAmong l live) → IsAmong l (m ∷ live)
left_at m l live rest true a more = inr a
left_at m l live rest false (inl e) more = inl e
left_at m l live rest false (inr a) more = inr (more a)

left_among : (name : Text) (l : Module) (live : List Module) → IsAmong l (without_live name live) → IsAmong l live
left_among name l [] a = absurd a
left_among name l (m ∷ live) a = left_at m l live (without_live name live) (bytes_eq name m.name) a (left_among name l live)

loaded_readless : (site : Site) (m : Module) (live : List Module) → ((v : Text) → Reads site (file_of m) v → ⊥) → ReadNothing site live → ReadNothing site (m ∷ live)
loaded_readless site m live none others l v (inl e) r = none v (subst (λ (x : Module). Reads site (file_of x) v) e r)
loaded_readless site m live none others l v (inr a) r = others l v a r

readless_after : (site : Site) (live : List Module) (moves : List Move) → ReadNothing site live → LoadNothingThatReads site moves → ReadNothing site (live_after live moves)
readless_after site live [] others none = others
readless_after site live (Loads m ∷ moves) others none =
    readless_after site (m ∷ live) moves (loaded_readless site m live (λ v r. none m v (inl refl) r) others) (λ l v a r. none l v (inr a) r)
readless_after site live (Unloads m ∷ moves) others none =
    readless_after site (without_live m.name live) moves (λ l v a r. others l v (left_among m.name l live a) r) (λ l v a r. none l v (inr a) r)

readless_left : (site : Site) (events : List (Event PrintedCommand)) (live : List Module) → ReadNothing site live
    → LoadNothingThatReads site (moves_of command_moves events) → HandsLeaveReads site live events
readless_left site [] live others none = tt
readless_left site (act c ∷ events) live others none =
    readless_left site events (live_after live (command_moves c))
    (readless_after site live (command_moves c) others (λ m v a r. none m v (among_front (Loads m) (command_moves c) (moves_of command_moves events) a) r))
    (λ m v a r. none m v (among_back (Loads m) (command_moves c) (moves_of command_moves events) a) r)
readless_left site (by_hand c ∷ events) live others none = ((λ m a r. others m c.variable a r), readless_left site events live others none)

pub readless_are_left : ReadlessAreLeft
readless_are_left site events none = readless_left site events [] (λ m v a r. a) none
