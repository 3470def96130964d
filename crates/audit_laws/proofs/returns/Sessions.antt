-- Sessions end in the start with the live modules layered on it, and from there the way back is open.
use Rattle.std.proofs.Common.{◌≡◌, List, [], ◌∷◌, ◌++◌, Some, Result, refl, ap, sym, ◌∙◌, subst}
use Rattle.std.proofs.lemmas.Option.{same_Some}
use Rattle.envvars.specs.Texts.{has}
use Rattle.envvars.specs.Environment.{Environment}
use Rattle.envstate.specs.loaded_list.Loaded.{Entry, names_of, loaded_in}
use Rattle.modulefile.specs.Moves.{Module, Move, Loads, Unloads}
use Rattle.reversal.specs.Requests as moves
use Rattle.reversal.specs.Runs.{without_live, live_after}
use Rattle.requests.specs.Requests.{Request, purge}
use Rattle.requests.specs.Laws as requests
use Rattle.requests.specs.Reasons.{RequestReason}
use Rattle.requests.specs.Steps.{Done, RequestStep}
use Rattle.requests.specs.Sessions.{Response, accepted, refused, given_up, Session, IsResponse, in_shell, env_after, end_environment, outcome_of, session_moves}
use Rattle.requests.specs.Returning.{AreNew}
use Rattle.audit_certificate.specs.Candidates.{Candidate}
use Rattle.audit_certificate.specs.Certificates.{certified}
use Rattle.audit_certificate.specs.Laws.{AreLayered, NoneIsLayered}
use Rattle.audit_laws.specs.site.Sites.{Site, over_site}
use Rattle.audit_laws.specs.site.Laws.{AreDeterministic, LoadsAreOf, AreReadEquivalently, SiteCommandsReturn}
use Rattle.audit_laws.specs.returns.Laws.{PurgesReturn, SessionsAreLayered, TheWayBackIsOpen, TheWayBackIsThere}

-- ---- moves in two parts

front_new : (start : Environment) (ms ns : List Move) → AreNew start (ms ++ ns) → AreNew start ms
front_new start [] ns h = tt
front_new start (m ∷ ms) ns h = (h.0, front_new start ms ns h.1)

back_new : (start : Environment) (ms ns : List Move) → AreNew start (ms ++ ns) → AreNew start ns
back_new start [] ns h = h
back_new start (m ∷ ms) ns h = back_new start ms ns h.1

front_loads : (site : Site) (cs : List Candidate) (start : Environment) (ms ns : List Move) → LoadsAreOf site cs start (ms ++ ns) → LoadsAreOf site cs start ms
front_loads site cs start [] ns h = tt
front_loads site cs start (Loads m ∷ ms) ns h = (h.0, front_loads site cs start ms ns h.1)
front_loads site cs start (Unloads m ∷ ms) ns h = front_loads site cs start ms ns h

back_loads : (site : Site) (cs : List Candidate) (start : Environment) (ms ns : List Move) → LoadsAreOf site cs start (ms ++ ns) → LoadsAreOf site cs start ns
back_loads site cs start [] ns h = h
back_loads site cs start (Loads m ∷ ms) ns h = back_loads site cs start ms ns h.1
back_loads site cs start (Unloads m ∷ ms) ns h = back_loads site cs start ms ns h

pub live_parts : (live : List Module) (ms ns : List Move) → live_after (live_after live ms) ns ≡ live_after live (ms ++ ns)
live_parts live [] ns = refl
live_parts live (Loads m ∷ ms) ns = live_parts (m ∷ live) ms ns
live_parts live (Unloads m ∷ ms) ns = live_parts (without_live m.name live) ms ns

-- ---- responses

abbrev Over : Site → List Candidate → Environment → List Module → Environment → Type 0
Over site ms start live e = AreLayered ms start live e × AreReadEquivalently site start live

one_response : SiteCommandsReturn → (site : Site) (ms : List Candidate) (start e : Environment) (live : List Module) (r : Request) (o : Response) → AreDeterministic site ms → Over site ms start live e
    → IsResponse (in_shell (over_site site) r.0) e r.1 o → AreNew start (moves.moves_of (outcome_of o)) → LoadsAreOf site (certified ms) start (moves.moves_of (outcome_of o))
    → Over site ms start (live_after live (moves.moves_of (outcome_of o))) (env_after e o)
one_response law site ms start e live r (accepted d) all over is new loads =
    let h = law site ms r.0 start e live r.1 d all over.0 over.1 is new loads in (h.0, h.1)
one_response law site ms start e live r (refused reason) all over is new loads = over
one_response law site ms start e live r (given_up n) all over is new loads = over

session_over : SiteCommandsReturn → (site : Site) (ms : List Candidate) (start e : Environment) (live : List Module) (rs : List Request) (os : List Response) → AreDeterministic site ms
    → Over site ms start live e → Session (over_site site) e rs os → AreNew start (session_moves os) → LoadsAreOf site (certified ms) start (session_moves os)
    → Over site ms start (live_after live (session_moves os)) (end_environment e os)
session_over law site ms start e live [] [] all over session new loads = over
session_over law site ms start e live [] (o ∷ os) all over session new loads = absurd session
session_over law site ms start e live (r ∷ rs) [] all over session new loads = absurd session
session_over law site ms start e live (r ∷ rs) (o ∷ os) all over session new loads =
    let first = moves.moves_of (outcome_of o) in
    let now = one_response law site ms start e live r o all over session.0 (front_new start first (session_moves os) new) (front_loads site (certified ms) start first (session_moves os) loads) in
    let rest = session_over law site ms start (env_after e o) (live_after live first) rs os all now session.1
    (back_new start first (session_moves os) new) (back_loads site (certified ms) start first (session_moves os) loads) in
    subst (λ (l : List Module). Over site ms start l (end_environment (env_after e o) os)) (live_parts live first (session_moves os)) rest

pub sessions_are_layered : NoneIsLayered → SiteCommandsReturn → SessionsAreLayered
sessions_are_layered begins law site ms start rs os all order session new loads =
    let over = session_over law site ms start start [] rs os all (begins ms start order, λ m a. absurd a) session new loads in
    record { deterministic = all; layered = over.0; reads = over.1 }

-- ---- back

-- where no module is loaded at the start, none of the start is unloaded
all_new : (start : Environment) (ms : List Move) → loaded_in start ≡ Some [] → AreNew start ms
all_new start [] h = tt
all_new start (Loads m ∷ ms) h = (tt, all_new start ms h)
all_new start (Unloads m ∷ ms) h =
    (λ xs k. ap (λ (l : List Entry). has m.name (names_of l)) (same_Some xs [] (sym k ∙ h)), all_new start ms h)

pub the_way_back_is_open : SessionsAreLayered → PurgesReturn → TheWayBackIsOpen
the_way_back_is_open layers back site ms shell start rs os o all order none session loads step =
    let over = layers site ms start rs os all order session (all_new start (session_moves os) none) loads in
    back site ms shell start (end_environment start os) (live_after [] (session_moves os)) o over none step

pub the_way_back_is_there : requests.SomeOutcome → TheWayBackIsOpen → TheWayBackIsThere
the_way_back_is_there some open_back site ms shell start rs os all order none session loads =
    let s = in_shell (over_site site) shell in
    let e = end_environment start os in
    let o = some s e purge tt in
    let back = open_back site ms shell start rs os o.0 all order none session loads o.1 in
    (back.0, subst (λ (x : Result Done RequestReason). RequestStep s e purge x) back.1 o.1, back.2)
