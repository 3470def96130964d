-- What a session of requests that describe modules says of each of them.
use Rattle.std.proofs.Common.{◌≡◌, inl, inr, ℕ, Bool, false, List, [], ◌∷◌, map, flat_map, string_bytes, Option, Result}
use Rattle.std.proofs.Common.{Ok, Err, IfOk, refl, subst}
use Rattle.std.specs.List.{list_any}
use Rattle.std.specs.Option.{option_map}
use Rattle.envvars.specs.Texts.{Text}
use Rattle.envvars.specs.Environment.{Environment}
use Rattle.filetree.specs.Agreement.{FailsOnlyWhere, Files, InEachPair, Listings, Narrows}
use Rattle.filetree.proofs.FailedPaths.{only_more_in_each, only_wider_in_each}
use Rattle.lookup.specs.DefaultFileResults.{HasResult}
use Rattle.search.specs.Looked.{ListingLooksAt}
use Rattle.filetree.specs.Causes.{Cause, Applies, memory, device, because}
use Rattle.shelltext.specs.declared.shell.Shell.{Shell}
use Rattle.tclrules.specs.declared.limits.Limits.{Limits}
use Rattle.requests.specs.Laws.{ReportsChangeNothing}
use Rattle.requests.specs.Looked as looks
use Rattle.requests.specs.Looked.{IsOwnResponse, OwnLooksAt, SessionLooksAt}
use Rattle.requests.specs.Reasons.{RequestReason}
use Rattle.requests.specs.Requests.{Request, whatis}
use Rattle.requests.specs.Sessions.{IsResponse, Response, Session, accepted, refused, given_up, env_after}
use Rattle.requests.specs.Steps.{RequestContext, modulepath, request_context_in}
use Rattle.modules.specs.Responses.{response_of, responses}
use Rattle.modules.specs.declared.sessions.Outcome.{Outcome}
use Rattle.modules.specs.declared.refusal.Refusal.{Refusal}
use Rattle.module_reports.specs.descriptions.Descriptions.{AreAllNames, AreDescribed, DescribingLooksAt, IsDescription, OneLooksAt, describing, is_want_of_memory}
use Rattle.module_reports.specs.descriptions.Mentions.{in_small_letters}
use Rattle.module_reports.specs.descriptions.Written.{left_lines, shown}
use Rattle.module_reports.specs.declared.descriptions.describing.Description.{Description}

-- ---- causes

-- want of memory is a cause, whatever the device did
pub memory_applies : (c : Cause RequestReason) (failed : Type 0) (P : RequestReason → Type 0) → c ≡ memory → Applies c failed P
memory_applies memory failed P h = tt
memory_applies device failed P h = absurd (cc)
memory_applies (because r) failed P h = absurd (cc)

module _ (unchanged : ReportsChangeNothing) (s : RequestContext) where
  -- a description leaves the environment
  left_alone : (e : Environment) (name : Text) (o : Response) → IsResponse s e (whatis (name ∷ [])) o → env_after e o ≡ e
  left_alone e name (accepted d) h = (unchanged s e (whatis (name ∷ [])) d tt h).0
  left_alone e name (refused reason) h = refl
  left_alone e name (given_up number) h = refl

module _ (unchanged : ReportsChangeNothing) (limits : Limits) (shell : Shell) (files : Files) (listings : Listings) (e : Environment) where
  -- the outcomes of a session, each in the one environment
  pub each_described : (names : List Text) (outcomes : List Outcome)
      → Session (request_context_in limits shell files listings) e (map (describing shell) names) (responses e outcomes)
      → AreDescribed (request_context_in limits shell files listings) e names outcomes
  each_described [] [] h = tt
  each_described [] (outcome ∷ outcomes) h = h
  each_described (name ∷ names) [] h = h
  each_described (name ∷ names) (outcome ∷ outcomes) h =
      let s = request_context_in limits shell files listings in
      let o = response_of e outcome in
      let Later : Environment → Type 0 = λ x. Session s x (map (describing shell) names) (responses x outcomes) in
      (h.0, each_described names outcomes (subst Later (left_alone unchanged s e name o h.0) h.1))

  -- where a session looks, one of the descriptions does
  pub one_looks : (names : List Text) (at : Text) → SessionLooksAt (request_context_in limits shell files listings) e (map (describing shell) names) at
      → OneLooksAt (request_context_in limits shell files listings) e names at
  one_looks [] at h = h
  one_looks (name ∷ names) at (inl h) = inl h
  one_looks (name ∷ names) at (inr (o, has, later)) =
      let s = request_context_in limits shell files listings in
      let Later : Environment → Type 0 = λ x. looks.OneLooksAt (OwnLooksAt s) (IsOwnResponse s) x (map (describing shell) names) at in
      inr (one_looks names at (subst Later (left_alone unchanged s e name o has) later))

module _ (unchanged : ReportsChangeNothing) (limits : Limits) (shell : Shell) (e given : Environment) (names : List Text) (rs : List Request)
    (same : given ≡ e) (asked : rs ≡ map (describing shell) names) (files : Files) (listings : Listings) where
  -- the same of the requests that were made, in the environment that was given
  pub described_of : (outcomes : List Outcome) → Session (request_context_in limits shell files listings) given rs (responses given outcomes)
      → AreDescribed (request_context_in limits shell files listings) e names outcomes
  described_of outcomes h =
      let s = request_context_in limits shell files listings in
      let Here : Environment → Type 0 = λ x. Session s x rs (responses x outcomes) in
      let Asked : List Request → Type 0 = λ r. Session s e r (responses e outcomes) in
      each_described unchanged limits shell files listings e names outcomes (subst Asked asked (subst Here same h))

  pub looks_of : (at : Text) → SessionLooksAt (request_context_in limits shell files listings) given rs at
      → OneLooksAt (request_context_in limits shell files listings) e names at
  looks_of at h =
      let s = request_context_in limits shell files listings in
      let Here : Environment → Type 0 = λ x. SessionLooksAt s x rs at in
      let Asked : List Request → Type 0 = λ r. SessionLooksAt s e r at in
      one_looks unchanged limits shell files listings e names at (subst Asked asked (subst Here same h))

-- ---- the whole

module _ (agrees agrees' : Files → Listings → Type 0) (limits : Limits) (shell : Shell) (e : Environment) (names : List Text) (narrows : Narrows agrees agrees')
    (listed : InEachPair agrees (λ files listings. AreAllNames (request_context_in limits shell files listings) e names)) where
  -- the listing, and then the requests
  pub looks_both : (before mid now : List ℕ → Bool)
      → FailsOnlyWhere before mid (λ at. InEachPair agrees (λ files listings. ListingLooksAt (HasResult limits) files listings [] (modulepath e) at))
      → FailsOnlyWhere mid now (λ at. InEachPair agrees' (λ files listings. OneLooksAt (request_context_in limits shell files listings) e names at))
      → FailsOnlyWhere before now (λ at. InEachPair agrees' (λ files listings. DescribingLooksAt (request_context_in limits shell files listings) e at))
  looks_both before mid now first second =
      only_more_in_each agrees agrees' before mid now (λ files listings at. OneLooksAt (request_context_in limits shell files listings) e names at)
      (λ files listings at. DescribingLooksAt (request_context_in limits shell files listings) e at) narrows
      (λ files listings agreed at h. inr (names, listed files listings agreed, h))
      (only_wider_in_each agrees before mid (λ files listings at. ListingLooksAt (HasResult limits) files listings [] (modulepath e) at)
      (λ files listings at. DescribingLooksAt (request_context_in limits shell files listings) e at) (λ files listings agreed at h. inl h) first)
      second

  -- what is reported
  pub described_by : (sought : Option Text) (outcomes : List Outcome) (result : Result Description Refusal)
      → InEachPair agrees' (λ files listings. AreDescribed (request_context_in limits shell files listings) e names outcomes)
      → IfOk result (λ d. list_any is_want_of_memory outcomes ≡ false)
      → IfOk result (λ d. string_bytes d.text ≡ flat_map (shown (option_map in_small_letters sought)) outcomes)
      → IfOk result (λ d. string_bytes d.left_out ≡ left_lines names outcomes)
      → IfOk result (λ d. IsDescription agrees' limits shell e sought (string_bytes d.text) (string_bytes d.left_out))
  described_by sought outcomes (Ok d) described remembered shows leaves = record {
    names = names;
    outcomes = outcomes;
    listed = λ files listings agreed. listed files listings (narrows files listings agreed);
    described = described;
    remembered = remembered;
    shows = shows;
    leaves_out = leaves;
  }
  described_by sought outcomes (Err refusal) described remembered shows leaves = tt
