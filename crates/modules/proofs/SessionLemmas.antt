-- Sessions grow by one request at their end.
use Rattle.std.proofs.Common.{◌≡◌, ℕ, Bool, true, ◌+◌, ◌≤◌, ◌<◌, List, [], ◌∷◌, ◌++◌, map, inl, inr, refl, sym, subst}
use Rattle.std.proofs.Common.{ap, ◌∙◌, Ok, Err, append_assoc, append-nil, arith}
use Rattle.envvars.specs.Environment.{Environment}
use Rattle.envvars.specs.Texts.{Text}
use Rattle.requests.specs.Laws.{SessionsReturn, StepsAreTheirMoves}
use Rattle.requests.specs.Looked.{IsOwnResponse, OneLooksAt, OwnLooksAt, SessionLooksAt}
use Rattle.requests.specs.Reasons.{RequestReason}
use Rattle.requests.specs.RequestViews.{request_view}
use Rattle.requests.specs.Requests.{RequestedAction, Request}
use Rattle.requests.specs.declared.action.Request as code
use Rattle.requests.specs.Returning.{AreNew, AreReversibleBeside}
use Rattle.requests.specs.Sessions as sessions
use Rattle.requests.specs.Sessions.{Response, Session, IsResponse, env_after, in_shell, is_given_up_by, session_moves}
use Rattle.requests.specs.Steps.{RequestContext, RequestStep}
use Rattle.filetree.specs.Agreement.{FailsOnlyWhere, Files, Listings, InEachPair, Narrows}
use Rattle.filetree.specs.Causes.{Cause, Applies, memory, device, because}
use Rattle.filetree.proofs.FailedPaths.{only_more_in_each}
use Rattle.shelltext.specs.declared.shell.Shell.{Shell}
use Rattle.modules.specs.Answers.{cause_of}
use Rattle.modules.specs.Messages.{memory_number, number_by, number_of}
use Rattle.modules.specs.declared.refusal.Refusal.{Refusal}
use Rattle.modules.specs.Views.{done_view}
use Rattle.modules.specs.declared.done.RequestResults.{RequestResults}
use Rattle.modules.proofs.MemoryNumberLemmas.{of_three}
use Rattle.modules.specs.declared.sessions.Outcome.{Outcome}
use Rattle.modules.specs.declared.sessions.Outcome.TheVariants.{Accepted, Refused}
use Rattle.modules.specs.Responses.{accepted_in, by_cause, count_cause, count_failed, count_one, env_after_moves}
use Rattle.modules.specs.Responses.{response_of, responses, Returns}

-- the environment after one response more
pub end_push : (e : Environment) (os : List Response) (o : Response) → sessions.end_environment e (os ++ o ∷ []) ≡ env_after (sessions.end_environment e os) o
end_push e [] o = refl
end_push e (p ∷ os) o = end_push (env_after e p) os o

pub responses_push : (e : Environment) (os : List Outcome) (o : Outcome)
    → responses e (os ++ o ∷ []) ≡ responses e os ++ response_of (sessions.end_environment e (responses e os)) o ∷ []
responses_push e [] o = refl
responses_push e (p ∷ os) o = ap (λ rs. response_of e p ∷ rs) (responses_push (env_after e (response_of e p)) os o)

-- the moves of an accepted step make the environment that results
pub made_by_moves : StepsAreTheirMoves → (s : RequestContext) (e new : Environment) (asked : RequestedAction)
    (done : RequestResults) → RequestStep s e asked (Ok (done_view done new)) → new ≡ env_after_moves e done
made_by_moves law s e new asked done step = sym (ap (accepted_in e) (law s e asked (done_view done new) step))

plus_assoc : (a b c : ℕ) → a + (b + c) ≡ (a + b) + c
plus_assoc a b c = omega arith

plus_none : (a : ℕ) → a ≡ 0 + a
plus_none a = omega arith

count_push : (os : List Outcome) (o : Outcome) → count_failed (os ++ o ∷ []) ≡ count_failed os + count_failed (o ∷ [])
count_push [] o = plus_none (count_failed (o ∷ []))
count_push (p ∷ os) o = ap (λ n. count_one p + n) (count_push os o) ∙ plus_assoc (count_one p) (count_failed os) (count_failed (o ∷ []))

counts : (before mid after a b : ℕ) → before + a ≤ mid → mid + b ≤ after → before + (a + b) ≤ after
counts before mid after a b h k = omega arith

pub failures_push : (before mid after : ℕ) (os : List Outcome) (o : Outcome) → before + count_failed os ≤ mid → mid + count_failed (o ∷ []) ≤ after
    → before + count_failed (os ++ o ∷ []) ≤ after
failures_push before mid after os o h k =
    let P : ℕ → Type 0 = λ n. before + n ≤ after in
    subst P (sym (count_push os o)) (counts before mid after (count_failed os) (count_failed (o ∷ [])) h k)

none_failed : (before after : ℕ) → before ≤ after → before + (0 + 0) ≤ after
none_failed before after h = omega arith

one_failed : (before after : ℕ) → before < after → before + (1 + 0) ≤ after
one_failed before after h = omega arith

-- ---- one response

pub accepted_counts : (before after : ℕ) (done : RequestResults) → before ≤ after → before + count_failed (Accepted done ∷ []) ≤ after
accepted_counts before after done h = none_failed before after h

cause_counts : (c : Cause RequestReason) (before after : ℕ) (Is : RequestReason → Type 0) → before ≤ after → Applies c (before < after) Is → before + (count_cause c + 0) ≤ after
cause_counts memory before after Is later h = none_failed before after later
cause_counts device before after Is later h = one_failed before after h
cause_counts (because r) before after Is later h = none_failed before after later

pub refused_counts : (before after : ℕ) (refusal : Refusal) (Is : RequestReason → Type 0) → before ≤ after → Applies (cause_of refusal) (before < after) Is
    → before + count_failed (Refused refusal ∷ []) ≤ after
refused_counts before after refusal Is later h = cause_counts (cause_of refusal) before after Is later h

pub responds : StepsAreTheirMoves → (s : RequestContext) (e new : Environment) (asked : RequestedAction) (done : RequestResults)
    → RequestStep s e asked (Ok (done_view done new)) → IsResponse s e asked (response_of e (Accepted done))
responds law s e new asked done step =
    let P : Environment → Type 0 = λ x. RequestStep s e asked (Ok (done_view done x)) in
    subst P (made_by_moves law s e new asked done step) step

-- the number of want of memory is that of a cause
pub memory_is_cause : (refusal : Refusal) → is_given_up_by (memory_number refusal) ≡ true
memory_is_cause refusal = of_three refusal (λ n. is_given_up_by n ≡ true) refl refl refl

cause_responds : (out_of_memory : ℕ) → is_given_up_by out_of_memory ≡ true
    → (c : Cause RequestReason) (agrees : Files → Listings → Type 0) (failed : Type 0)
    (context : Files → Listings → RequestContext) (e : Environment) (asked : RequestedAction)
    → Applies c failed (λ r. InEachPair agrees (λ files listings. RequestStep (context files listings) e asked (Err r)))
    → InEachPair agrees (λ files listings. IsResponse (context files listings) e asked (by_cause (number_by out_of_memory c) c))
cause_responds out_of_memory is memory agrees failed context e asked h = λ files listings agreed. is
cause_responds out_of_memory is device agrees failed context e asked h = λ files listings agreed. refl
cause_responds out_of_memory is (because r) agrees failed context e asked h = h

pub refused_responds : (refusal : Refusal) (agrees : Files → Listings → Type 0) (failed : Type 0) (context : Files → Listings → RequestContext) (e : Environment) (asked : RequestedAction)
    → Applies (cause_of refusal) failed (λ r. InEachPair agrees (λ files listings. RequestStep (context files listings) e asked (Err r)))
    → InEachPair agrees (λ files listings. IsResponse (context files listings) e asked (response_of e (Refused refusal)))
refused_responds refusal agrees failed context e asked h = cause_responds (memory_number refusal) (memory_is_cause refusal) (cause_of refusal) agrees failed context e asked h

cause_leaves : (number : ℕ) (c : Cause RequestReason) (e : Environment) → e ≡ env_after e (by_cause number c)
cause_leaves number memory e = refl
cause_leaves number device e = refl
cause_leaves number (because r) e = refl

pub refused_leaves : (refusal : Refusal) (e new : Environment) → new ≡ e → new ≡ env_after e (response_of e (Refused refusal))
refused_leaves refusal e new same = same ∙ cause_leaves (number_of refusal) (cause_of refusal) e

-- ---- sessions

-- the law of sessions, of all the ways to cut one in two
pub session_returning : SessionsReturn → (s : RequestContext) (start : Environment) (rs : List Request) (os : List Response) → Session s start rs os → Returns start os
session_returning law s start rs os session uses is_start are_new fitting before after cut =
    let Runs : List Response → Type 0 = λ x. Session s start rs x in
    let New : List Response → Type 0 = λ x. AreNew start (session_moves x) in
    let Fits : List Response → Type 0 = λ x. AreReversibleBeside uses [] (session_moves x) in
    law uses s start rs before after is_start (subst Runs cut session) (subst New cut are_new) (subst Fits cut fitting)

-- a request more, after those with an answer
pub session_grows : (start e new : Environment) (outcomes : List Outcome) (o : Outcome)
    → e ≡ sessions.end_environment start (responses start outcomes) → new ≡ env_after e (response_of e o)
    → (new ≡ sessions.end_environment start (responses start (outcomes ++ o ∷ []))) × (responses start (outcomes ++ o ∷ []) ≡ responses start outcomes ++ response_of e o ∷ [])
session_grows start e new outcomes o end after =
    let grown : responses start (outcomes ++ o ∷ []) ≡ responses start outcomes ++ response_of e o ∷ [] =
    responses_push start outcomes o ∙ ap (λ x. responses start outcomes ++ response_of x o ∷ []) (sym end) in (
      after ∙ (ap (λ x. env_after x (response_of e o)) end ∙ (sym (end_push start (responses start outcomes) (response_of e o)) ∙ ap (sessions.end_environment start) (sym grown))),
      grown,
    )

-- what the rest of a session has as responses, the whole has after those so far
pub session_taken : (s : RequestContext) (start e new : Environment) (asked : Request) (rs all : List Request) (sofar : List Response) (grown : List Response) (o : Response)
    → (os : List Response) → (Session s e (asked ∷ rs) (o ∷ os) → Session s start all (sofar ++ o ∷ os))
    → IsResponse (in_shell s asked.0) e asked.1 o → new ≡ env_after e o → grown ≡ sofar ++ o ∷ []
    → Session s new rs os → Session s start all (grown ++ os)
session_taken s start e new asked rs all sofar grown o os run is_response end more rest =
    let P : Environment → Type 0 = λ x. Session s x rs os in
    let Q : List Response → Type 0 = λ x. Session s start all x in
    subst Q (sym (append_assoc sofar (o ∷ []) os) ∙ ap (λ x. x ++ os) (sym more)) (run (is_response, subst P end rest))

-- no request remains
pub session_done : (s : RequestContext) (start e : Environment) (rest : List code.Request) (all : List Request) (sofar : List Response) → rest ≡ []
    → ((os : List Response) → Session s e (map request_view rest) os → Session s start all (sofar ++ os)) → Session s start all sofar
session_done s start e rest all sofar none run =
    let Whole : List Response → Type 0 = λ x. Session s start all x in
    let Rest : List code.Request → Type 0 = λ rs. Session s e (map request_view rs) [] in
    subst Whole (append-nil sofar) (run [] (subst Rest (sym none) tt))

-- ---- where several look, one after another

-- the first of them
pub looks_here : {R : Type 0} (Looks : Environment → R → Text → Type 0) (Has : Environment → R → Response → Type 0) (e : Environment) (whole : List R) (r : R) (rs : List R) (at : Text)
    → whole ≡ r ∷ rs → Looks e r at → OneLooksAt Looks Has e whole at
looks_here Looks Has e whole r rs at same h = subst (λ (all : List _). OneLooksAt Looks Has e all at) (sym same) (inl h)

-- those after it, in the environment after its response
pub looks_on : {R : Type 0} (Looks : Environment → R → Text → Type 0) (Has : Environment → R → Response → Type 0)
    (e new : Environment) (whole : List R) (r : R) (rs : List R) (o : Response) (at : Text)
    → whole ≡ r ∷ rs → Has e r o → new ≡ env_after e o → OneLooksAt Looks Has new rs at → OneLooksAt Looks Has e whole at
looks_on Looks Has e new whole r rs o at same has end h =
    subst (λ (all : List _). OneLooksAt Looks Has e all at) (sym same) (inr (o, has, subst (λ (x : Environment). OneLooksAt Looks Has x rs at) end h))

-- where the device has failed after one request more: the rest looks where the whole does
pub session_fails : (agrees agrees' : Files → Listings → Type 0) (before mid now : List ℕ → Bool)
    (context : Files → Listings → Shell → RequestContext) (start e : Environment) (all whole : List Request)
    (r : Request) (rs : List Request)
    → Narrows agrees agrees' → whole ≡ r ∷ rs
    → InEachPair agrees (λ files listings. (shell : Shell) (at : Text) → SessionLooksAt (context files listings shell) e whole at → SessionLooksAt (context files listings shell) start all at)
    → FailsOnlyWhere before mid (λ at. InEachPair agrees (λ files listings. (shell : Shell) → SessionLooksAt (context files listings shell) start all at))
    → FailsOnlyWhere mid now (λ at. InEachPair agrees' (λ files listings. (shell : Shell) → OwnLooksAt (context files listings shell) e r at))
    → FailsOnlyWhere before now (λ at. InEachPair agrees' (λ files listings. (shell : Shell) → SessionLooksAt (context files listings shell) start all at))
session_fails agrees agrees' before mid now context start e all whole r rs narrows split looks first second =
    let Whole : Files → Listings → Text → Type 0 = λ files listings at. (shell : Shell) → SessionLooksAt (context files listings shell) start all at in
    let Here : Files → Listings → Text → Type 0 = λ files listings at. (shell : Shell) → OwnLooksAt (context files listings shell) e r at in
    only_more_in_each agrees agrees' before mid now Here Whole narrows
    (λ files listings agreed at h shell.
    looks files listings agreed shell at
    (looks_here (OwnLooksAt (context files listings shell)) (IsOwnResponse (context files listings shell)) e whole r rs at split (h shell)))
    first second
