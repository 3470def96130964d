-- How an automated load goes on: what a try of the next name makes of the names so far.
use Rattle.std.proofs.Common.{◌≡◌, ℕ, ◌+◌, ◌<◌, ◌≤◌, true, false, List, [], ◌∷◌, ◌++◌, length, take, drop, get_or, Ok, Err, inl, inr, sym, ap, subst, ◌∙◌, arith, append-nil}
use Rattle.std.proofs.lemmas.List.{take-append-drop, take-append-le, take_all, take_more, drop_more, length-take-le}
use Rattle.std.specs.Prelude.{◌⊎◌, All, Contains, insert}
use Rattle.envvars.specs.Texts.{Text}
use Rattle.envvars.specs.Environment.{Environment}
use Rattle.requests.specs.Looked.{RequestLooksAt, SearchLooksAt}
use Rattle.requests.specs.Laws.{OneOutcome}
use Rattle.requests.specs.Reasons.{RequestReason, bad_arguments, prereq_missing}
use Rattle.requests.specs.Requests.{load}
use Rattle.requests.specs.Steps.{RequestContext, Done, RequestStep}
use Rattle.module_auto.specs.Adding.{is_spent}
use Rattle.module_auto.specs.Loads.{AutomaticLoadLooksAt, Completes, as_asked, with_needed, IsFinal, IsFirstFound, IsMissed, IsStuck, Lacks, LoadsTo, Needs, RefusesLoad}

-- what an accepted load makes
pub loads_to : (s : RequestContext) (e after : Environment) (names : List Text) (d : Done) → RequestStep s e (load names) (Ok d) → after ≡ d.env → LoadsTo s e names after
loads_to s e after [] d step made = absurd (cc)
loads_to s e after (name ∷ names) d step made = (d, step, made)

-- a load that is accepted isn't refused
pub final_of_loaded : OneOutcome → (s : RequestContext) (e after : Environment) (names added : List Text) (reason : RequestReason) → LoadsTo s e names after
    → RequestStep s e (load names) (Err reason) → IsFinal s e added names reason
final_of_loaded one s e after [] added reason loaded step =
    let is : bad_arguments ≡ reason = cc in subst (λ (r : RequestReason). IsFinal s e added [] r) is tt
final_of_loaded one s e after (name ∷ names) added reason (d, step, made) refused =
    let same : Ok d ≡ Err reason = one s e (load (name ∷ names)) (Ok d) (Err reason) step refused in absurd (cc)

module _ (s : RequestContext) (e : Environment) (asked added names : List Text) (ready : ℕ) (after : Environment) (fits : ready < length names) (completed : Completes s e asked added names)
    (loaded : LoadsTo s e (take ready names) after) where
  -- the name that is tried, those in front of it, and those behind it
  abbrev next : Text
  next = get_or names ready []

  abbrev front : List Text
  front = take ready names

  abbrev back : List Text
  back = drop (ready + 1) names

  parted : names ≡ front ++ next ∷ back
  parted = sym (take-append-drop ready names) ∙ ap (λ (l : List Text). front ++ l) (drop_more names ready [] fits)

  tried : take (ready + 1) names ≡ front ++ next ∷ []
  tried = take_more names ready [] fits

  lacks : (alternatives : List Text) → RequestStep s e (load (take (ready + 1) names)) (Err (prereq_missing alternatives)) → Lacks s e front next after alternatives
  lacks alternatives step = record {
    loaded = loaded;
    refused = subst (λ (l : List Text). RequestStep s e (load l) (Err (prereq_missing alternatives))) tried step;
  }

  -- the name is put in
  pub put_in : (alternatives : List Text) (needed : Text) → RequestStep s e (load (take (ready + 1) names)) (Err (prereq_missing alternatives))
      → IsFirstFound s after alternatives needed → is_spent needed added ≡ false → Completes s e asked (added ++ needed ∷ []) (insert names ready needed)
  put_in alternatives needed step first unspent =
      let needs : Needs s e front next needed = record { after = after; alternatives = alternatives; lacking = lacks alternatives step; first = first } in
      let whole : Completes s e asked (added ++ needed ∷ []) (front ++ needed ∷ next ∷ back) = with_needed added names front back next needed completed parted needs unspent in
      subst (λ (l : List Text). Completes s e asked (added ++ needed ∷ []) (front ++ needed ∷ l)) (sym (drop_more names ready [] fits)) whole

  -- and those in front of it are as they were
  pub still_ready : (needed : Text) → LoadsTo s e (take ready (insert names ready needed)) after
  still_ready needed =
      let long : length front ≡ ready = length-take-le ready names (omega arith) in
      let short : ready ≤ length front = omega (arith, long) in
      let same : take ready (front ++ needed ∷ drop ready names) ≡ take ready front = take-append-le ready front (needed ∷ drop ready names) short in
      let all : take ready front ≡ front = take_all ready front (omega (arith, long)) in
      subst (λ (l : List Text). LoadsTo s e l after) (sym (same ∙ all)) loaded

  -- the try is refused in the end
  pub refuses : (reason : RequestReason) → RequestStep s e (load (take (ready + 1) names)) (Err reason) → IsFinal s e added (take (ready + 1) names) reason → RefusesLoad s e asked reason
  refuses reason step final = record {
    added = added;
    tried = take (ready + 1) names;
    rest = drop (ready + 1) names;
    completed = subst (λ (l : List Text). Completes s e asked added l) (sym (take-append-drop (ready + 1) names)) completed;
    refused = step;
    final = final;
  }

  pub stuck : (alternatives : List Text) → RequestStep s e (load (take (ready + 1) names)) (Err (prereq_missing alternatives))
      → All (IsMissed s after) alternatives ⊎ ((needed : Text) × IsFirstFound s after alternatives needed × (is_spent needed added ≡ true))
      → RefusesLoad s e asked (prereq_missing alternatives)
  stuck alternatives step unmet =
      let is : IsStuck s e added (take (ready + 1) names) alternatives =
      record { front = front; name = next; last = tried; after = after; lacking = lacks alternatives step; unmet = unmet } in
      refuses (prereq_missing alternatives) step is

  -- where the try looks, and the search for what the name lacks
  pub try_looks : (at : Text) → RequestLooksAt s e (load (take (ready + 1) names)) at → AutomaticLoadLooksAt s e asked at
  try_looks at looks =
      inl (added, take (ready + 1) names, drop (ready + 1) names, subst (λ (l : List Text). Completes s e asked added l) (sym (take-append-drop (ready + 1) names)) completed, looks)

  pub need_looks : (alternatives : List Text) (alternative at : Text) → RequestStep s e (load (take (ready + 1) names)) (Err (prereq_missing alternatives))
      → Contains alternatives alternative → SearchLooksAt s after alternative at → AutomaticLoadLooksAt s e asked at
  need_looks alternatives alternative at step among looks =
      inr (added, front, back, next, subst (λ (l : List Text). Completes s e asked added l) parted completed, (after, alternatives, alternative, lacks alternatives step, among, looks))

-- the last try, of all names
module _ (s : RequestContext) (e : Environment) (asked added names : List Text) (completed : Completes s e asked added names) where
  whole : Completes s e asked added (names ++ [])
  whole = subst (λ (l : List Text). Completes s e asked added l) (sym (append-nil names)) completed

  pub last_refuses : OneOutcome → (after : Environment) (reason : RequestReason) → LoadsTo s e names after → RequestStep s e (load names) (Err reason) → RefusesLoad s e asked reason
  last_refuses one after reason loaded step = record {
    added = added;
    tried = names;
    rest = [];
    completed = whole;
    refused = step;
    final = final_of_loaded one s e after names added reason loaded step;
  }

  pub last_looks : (at : Text) → RequestLooksAt s e (load names) at → AutomaticLoadLooksAt s e asked at
  last_looks at looks = inl (added, names, [], whole, looks)

-- the first try, of the names that were asked for
module _ (s : RequestContext) (e : Environment) (asked : List Text) where
  pub first_looks : (at : Text) → RequestLooksAt s e (load asked) at → AutomaticLoadLooksAt s e asked at
  first_looks at looks = last_looks s e asked [] asked as_asked at looks
