-- Sessions of lines grow by one line at their end.
use Rattle.std.proofs.Common.{◌≡◌, ℕ, Bool, ◌<◌, ◌≤◌, ◌+◌, true, List, [], ◌∷◌, ◌++◌, map, refl, sym, subst, ap, ◌∙◌}
use Rattle.std.proofs.Common.{Ok, Err, append_assoc, append-nil, arith}
use Rattle.envvars.specs.Texts.{Text}
use Rattle.envvars.specs.Environment.{Environment}
use Rattle.filetree.specs.Agreement.{FailsOnlyWhere, Files, InEachPair, Listings, Narrows}
use Rattle.filetree.proofs.FailedPaths.{only_more_in_each}
use Rattle.filetree.specs.Causes.{Cause, Applies, memory, device, because}
use Rattle.filetree.specs.Relations.{Is}
use Rattle.requests.specs.Looked.{RequestLooksAt}
use Rattle.requests.specs.Reasons.{RequestReason}
use Rattle.requests.specs.Requests.{RequestedAction, request_of}
use Rattle.requests.specs.Sessions.{Response, accepted, refused, given_up, IsResponse, env_after, is_given_up_by}
use Rattle.requests.specs.Steps.{RequestContext, request_context_in}
use Rattle.shelltext.specs.declared.shell.Shell.{Shell}
use Rattle.tclrules.specs.declared.limits.Limits.{Limits}
use Rattle.modules.specs.Answers.{cause_of}
use Rattle.modules.specs.Messages.{memory_number, number_by}
use Rattle.modules.specs.declared.refusal.Refusal.{Refusal}
use Rattle.modules.proofs.SessionLemmas.{looks_here, memory_is_cause, refused_counts}
use Rattle.modules.proofs.StepLemmas.{stands_as}
use Rattle.modules.specs.Responses.{by_cause, count_failed, response_of}
use Rattle.modules.specs.declared.sessions.Outcome.TheVariants.{Refused}
use Rattle.modules.specs.rehearsals.Sessions.{IsLineResponse, LineLooksAt, LineSession, LinesLookAt}

-- the response of a line's request is the line's
pub line_responds : (s : RequestContext) (e : Environment) (words : List Text) (asked : RequestedAction) (o : Response) → request_of words ≡ Ok asked
    → IsResponse s e asked o → IsLineResponse s e words o
line_responds s e words asked (accepted d) made h = (Ok asked, sym made, h)
line_responds s e words asked (refused reason) made h = (Ok asked, sym made, h)
line_responds s e words asked (given_up number) made h = h

-- where the request of a line looks, the line does
pub looks_by_request : (limits : Limits) (shell own : Shell) (files : Files) (listings : Listings) (e : Environment)
    (words : List Text) (asked : RequestedAction) (at : Text) → own ≡ shell → Ok asked ≡ request_of words
    → RequestLooksAt (request_context_in limits own files listings) e asked at → LineLooksAt (request_context_in limits shell files listings) e words at
looks_by_request limits shell own files listings e words asked at same made h =
    let Looks : Shell → Type 0 = λ x. RequestLooksAt (request_context_in limits x files listings) e asked at in
    (asked, sym made, subst Looks same h)

-- a line that makes no request
by_cause_responds : (s : RequestContext) (e : Environment) (words : List Text) (out_of_memory : ℕ) (c : Cause RequestReason) → is_given_up_by out_of_memory ≡ true
    → Applies c ⊥ (λ r. Is (request_of words) (Err r)) → IsLineResponse s e words (by_cause (number_by out_of_memory c) c)
by_cause_responds s e words out_of_memory memory is h = is
by_cause_responds s e words out_of_memory device is h = absurd h
by_cause_responds s e words out_of_memory (because r) is h = (Err r, h, refl)

pub none_responds : (s : RequestContext) (e : Environment) (words : List Text) (refusal : Refusal)
    → Applies (cause_of refusal) ⊥ (λ r. Is (request_of words) (Err r)) → IsLineResponse s e words (response_of e (Refused refusal))
none_responds s e words refusal h = by_cause_responds s e words (memory_number refusal) (cause_of refusal) (memory_is_cause refusal) h

same_number : (n : ℕ) → n ≤ n
same_number n = omega arith

pub none_counts : (failures : ℕ) (refusal : Refusal) (Is : RequestReason → Type 0) → Applies (cause_of refusal) ⊥ Is → failures + count_failed (Refused refusal ∷ []) ≤ failures
none_counts failures refusal Is h = refused_counts failures failures refusal Is (same_number failures) (stands_as (cause_of refusal) ⊥ (failures < failures) Is Is (λ x. absurd x) (λ r k. k) h)

-- what the rest of the lines has as responses, the whole has after those so far
pub lines_taken : (s : RequestContext) (start e new : Environment) (words : List Text) (lines all : List (List Text)) (sofar grown : List Response) (o : Response)
    → (os : List Response) → (LineSession s e (words ∷ lines) (o ∷ os) → LineSession s start all (sofar ++ o ∷ os))
    → IsLineResponse s e words o → new ≡ env_after e o → grown ≡ sofar ++ o ∷ []
    → LineSession s new lines os → LineSession s start all (grown ++ os)
lines_taken s start e new words lines all sofar grown o os run is_response end more rest =
    let P : Environment → Type 0 = λ x. LineSession s x lines os in
    let Q : List Response → Type 0 = λ x. LineSession s start all x in
    subst Q (sym (append_assoc sofar (o ∷ []) os) ∙ ap (λ x. x ++ os) (sym more)) (run (is_response, subst P end rest))

-- no line remains
pub lines_done : {W : Type 0} (view : W → List Text) (s : RequestContext) (start e : Environment) (rest : List W) (all : List (List Text)) (sofar : List Response) → rest ≡ []
    → ((os : List Response) → LineSession s e (map view rest) os → LineSession s start all (sofar ++ os)) → LineSession s start all sofar
lines_done {W} view s start e rest all sofar none run =
    let Whole : List Response → Type 0 = λ x. LineSession s start all x in
    let Rest : List W → Type 0 = λ ws. LineSession s e (map view ws) [] in
    subst Whole (append-nil sofar) (run [] (subst Rest (sym none) tt))

-- where the device has failed after one line more: the rest looks where the whole does
pub lines_fail : (agrees agrees' : Files → Listings → Type 0) (before mid now : List ℕ → Bool)
    (context : Files → Listings → RequestContext) (start e : Environment) (all whole : List (List Text))
    (words : List Text) (lines : List (List Text))
    → Narrows agrees agrees' → whole ≡ words ∷ lines
    → InEachPair agrees (λ files listings. (at : Text) → LinesLookAt (context files listings) e whole at → LinesLookAt (context files listings) start all at)
    → FailsOnlyWhere before mid (λ at. InEachPair agrees (λ files listings. LinesLookAt (context files listings) start all at))
    → FailsOnlyWhere mid now (λ at. InEachPair agrees' (λ files listings. LineLooksAt (context files listings) e words at))
    → FailsOnlyWhere before now (λ at. InEachPair agrees' (λ files listings. LinesLookAt (context files listings) start all at))
lines_fail agrees agrees' before mid now context start e all whole words lines narrows split looks first second =
    let Whole : Files → Listings → Text → Type 0 = λ files listings at. LinesLookAt (context files listings) start all at in
    let Here : Files → Listings → Text → Type 0 = λ files listings at. LineLooksAt (context files listings) e words at in
    only_more_in_each agrees agrees' before mid now Here Whole narrows
    (λ files listings agreed at h.
    looks files listings agreed at
    (looks_here (LineLooksAt (context files listings)) (IsLineResponse (context files listings)) e whole words lines at split h))
    first second
