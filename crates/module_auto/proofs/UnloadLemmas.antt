-- How an automated unload goes on: what one module more makes of the names so far.
use Rattle.std.proofs.Common.{◌≡◌, ℕ, Bool, List, [], ◌∷◌, ◌++◌, Ok, Err, refl, sym, ap, subst, ◌∙◌}
use Rattle.envvars.specs.Texts.{Text}
use Rattle.envvars.specs.Environment.{Environment}
use Rattle.filetree.specs.Agreement.{FailsIf}
use Rattle.filetree.specs.Causes.{Applies, Cause, memory, device, because}
use Rattle.requests.specs.Looked.{RequestLooksAt}
use Rattle.modules.specs.Answers.{is_of_device}
use Rattle.requests.specs.Reasons.{RequestReason, still_needed_by}
use Rattle.requests.specs.Requests.{unload}
use Rattle.requests.specs.Steps.{RequestContext, Done, RequestStep}
use Rattle.module_auto.specs.Unloads.{AutomaticUnload, AutomaticUnloadLooksAt, IsFinal, RefusesUnload, StillNeed, in_front}
use Rattle.module_auto.specs.Views.{IsNotPut}

-- one more is put in front of all
pub in_front-push : (added : List Text) (needing : Text) (names : List Text) → in_front (added ++ needing ∷ []) names ≡ needing ∷ in_front added names
in_front-push [] needing names = refl
in_front-push (x ∷ xs) needing names = in_front-push xs needing (x ∷ names)

pub longer_names : (asked added names : List Text) → names ≡ in_front added asked → (needing : Text) (added' names' : List Text) → added' ≡ added ++ needing ∷ [] → names' ≡ needing ∷ names
    → names' ≡ in_front added' asked
longer_names asked added names same needing added' names' back front =
    front ∙ (ap (λ (l : List Text). needing ∷ l) same ∙ (sym (in_front-push added needing asked) ∙ ap (λ (l : List Text). in_front l asked) (sym back)))

module _ (s : RequestContext) (e : Environment) (needing : Text) where
  -- which still needs something of those behind it
  pub one_more : (names added : List Text) → StillNeed s e names added → RequestStep s e (unload (in_front added names)) (Err (still_needed_by needing)) → StillNeed s e names (added ++ needing ∷ [])
  one_more names [] need step = (step, tt)
  one_more names (x ∷ xs) (first, need) step = (first, one_more (x ∷ names) xs need step)

-- a refusal that no name is put in for is that of the whole
pub not_put : (cause other : Cause RequestReason) (added : List Text) (failed : Type 0) (P Q : RequestReason → Type 0) → IsNotPut cause added other
    → ((r : RequestReason) → P r → IsFinal added r → Q r) → Applies cause failed P → Applies other failed Q
not_put cause memory added failed P Q put then h = tt
not_put cause device added failed P Q put then h = subst (λ (x : Cause RequestReason). Applies x failed P) put h
not_put cause (because r) added failed P Q put then h = then r (subst (λ (x : Cause RequestReason). Applies x failed P) put.0 h) put.1

-- the reason of a cause that is known
pub known_reason : (cause : Cause RequestReason) (r : RequestReason) (failed : Type 0) (P : RequestReason → Type 0) → cause ≡ because r → Applies cause failed P → P r
known_reason cause r failed P same h = subst (λ (x : Cause RequestReason). Applies x failed P) same h

pub known_unfailed : (cause : Cause RequestReason) (r : RequestReason) (before now : List ℕ → Bool) (W : List ℕ → Type 0) → cause ≡ because r → FailsIf (is_of_device cause) before now W → now ≡ before
known_unfailed cause r before now W same h = subst (λ (x : Cause RequestReason). FailsIf (is_of_device x) before now W) same h

module _ (s : RequestContext) (e : Environment) (asked added names : List Text) (same : names ≡ in_front added asked) (need : StillNeed s e asked added) where
  pub refuses : (reason : RequestReason) → RequestStep s e (unload names) (Err reason) → IsFinal added reason → RefusesUnload s e asked reason
  refuses reason step final = record {
    added = added;
    needing = need;
    refused = subst (λ (l : List Text). RequestStep s e (unload l) (Err reason)) same step;
    final = final;
  }

  pub looks : (at : Text) → RequestLooksAt s e (unload names) at → AutomaticUnloadLooksAt s e asked at
  looks at h = (added, need, subst (λ (l : List Text). RequestLooksAt s e (unload l) at) same h)

  pub unloads : (d : Done) → RequestStep s e (unload names) (Ok d) → AutomaticUnload s e asked (Ok d)
  unloads d step = (added, need, subst (λ (l : List Text). RequestStep s e (unload l) (Ok d)) same step)

  module _ (needing : Text) (step : RequestStep s e (unload names) (Err (still_needed_by needing))) (added' names' : List Text) (back : added' ≡ added ++ needing ∷ []) (front : names' ≡ needing ∷ names) where
    pub longer_need : StillNeed s e asked added'
    longer_need =
        subst (λ (l : List Text). StillNeed s e asked l) (sym back) (one_more s e needing asked added need (subst (λ (l : List Text). RequestStep s e (unload l) (Err (still_needed_by needing))) same step))
