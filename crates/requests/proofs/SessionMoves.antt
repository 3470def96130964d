-- What holds of the responses of a session, one after another.
use Rattle.std.proofs.Common.{◌≡◌, true, List, [], ◌∷◌, map, Ok, Err, refl, ap, sym, ◌∙◌, subst}
use Rattle.std.specs.List.{list_all}
use Rattle.std.proofs.lemmas.Bool.{and_parts}
use Rattle.envvars.specs.Environment.{Environment}
use Rattle.modulefile.specs.Moves.{MovesReach}
use Rattle.modulefile.specs.RecordLaws.{ReachComposes}
use Rattle.reversal.specs.Requests as moves
use Rattle.requests.specs.Requests.{RequestedAction, Request}
use Rattle.requests.specs.Steps.{RequestContext}
use Rattle.requests.specs.Sessions.{Response, accepted, refused, given_up, IsResponse, env_after, end_environment}
use Rattle.requests.specs.Sessions.{in_shell, Session, outcome_of, is_decided}
use Rattle.requests.specs.Laws.{OneOutcome, StepsReach}

response_comes : StepsReach → (s : RequestContext) (e : Environment) (asked : RequestedAction) (o : Response) → IsResponse s e asked o → moves.RequestReaches (outcome_of o) e (env_after e o)
response_comes law s e asked (accepted d) h = law s e asked d h
response_comes law s e asked (refused r) h = refl
response_comes law s e asked (given_up n) h = refl

pub session_run : StepsReach → (s : RequestContext) (e : Environment) (rs : List Request) (os : List Response) → Session s e rs os → moves.RequestsReach (map outcome_of os) e (end_environment e os)
session_run law s e [] [] h = refl
session_run law s e [] (o ∷ os) h = absurd h
session_run law s e (r ∷ rs) [] h = absurd h
session_run law s e (r ∷ rs) (o ∷ os) h =
    (env_after e o, response_comes law (in_shell s r.0) e r.1 o h.0, session_run law s (env_after e o) rs os h.1)

comes_lead : (o : moves.RequestOutcome) (old new : Environment) → moves.RequestReaches o old new → MovesReach (moves.moves_of o) old new
comes_lead (moves.accepted ms) old new h = h
comes_lead moves.refused old new h = h

pub run_leads : ReachComposes → (os : List moves.RequestOutcome) (old new : Environment) → moves.RequestsReach os old new → MovesReach (moves.all_moves os) old new
run_leads law [] old new h = h
run_leads law (o ∷ os) old new (mid, c, r) = law (moves.moves_of o) (moves.all_moves os) old mid new (comes_lead o old mid c) (run_leads law os mid new r)

-- responses that aren't given up
same_response : OneOutcome → (s : RequestContext) (e : Environment) (asked : RequestedAction) (o p : Response)
    → is_decided o ≡ true → is_decided p ≡ true → IsResponse s e asked o → IsResponse s e asked p → o ≡ p
same_response law s e asked (accepted d) (accepted t) a b h k = let q : Ok d ≡ Ok t = law s e asked (Ok d) (Ok t) h k in cc
same_response law s e asked (accepted d) (refused r) a b h k = absurd (let q : Ok d ≡ Err r = law s e asked (Ok d) (Err r) h k in cc)
same_response law s e asked (refused r) (accepted d) a b h k = absurd (let q : Err r ≡ Ok d = law s e asked (Err r) (Ok d) h k in cc)
same_response law s e asked (refused r) (refused t) a b h k = let q : Err r ≡ Err t = law s e asked (Err r) (Err t) h k in cc
same_response law s e asked (given_up n) p a b h k = absurd (cc)
same_response law s e asked (accepted d) (given_up n) a b h k = absurd (cc)
same_response law s e asked (refused r) (given_up n) a b h k = absurd (cc)

pub same_session : OneOutcome → (s : RequestContext) (e : Environment) (rs : List Request) (os ps : List Response)
    → list_all is_decided os ≡ true → list_all is_decided ps ≡ true → Session s e rs os → Session s e rs ps → os ≡ ps
same_session law s e [] [] [] a b h k = refl
same_session law s e [] [] (p ∷ ps) a b h k = absurd k
same_session law s e [] (o ∷ os) ps a b h k = absurd h
same_session law s e (r ∷ rs) [] ps a b h k = absurd h
same_session law s e (r ∷ rs) (o ∷ os) [] a b h k = absurd k
same_session law s e (r ∷ rs) (o ∷ os) (p ∷ ps) a b h k =
    let a' = and_parts (is_decided o) (list_all is_decided os) a in
    let b' = and_parts (is_decided p) (list_all is_decided ps) b in
    let q : o ≡ p = same_response law (in_shell s r.0) e r.1 o p a'.0 b'.0 h.0 k.0 in
    let i = same_session law s (env_after e o) rs os ps a'.1 b'.1 h.1 (subst (λ x. Session s (env_after e x) rs ps) (sym q) k.1) in
    ap (λ x. x ∷ os) q ∙ ap (λ xs. p ∷ xs) i
