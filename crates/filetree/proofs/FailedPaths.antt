-- Where one call or several failed.
use Rattle.std.proofs.Common.{◌≡◌, ◌⊎◌, inl, inr, ℕ, Bool, true, false, List, Result, Ok, Err, refl, sym, subst, ◌∙◌}
use Rattle.filetree.specs.Agreement.{FailsAt, FailsIf, FailsOnlyWhere, Files, InEachPair, Listings, Narrows}

-- ---- one call of several steps

fails_if : (fails : Bool) (before now : List ℕ → Bool) (W V : List ℕ → Type 0) → ((at : List ℕ) → W at → V at) → FailsIf fails before now W → FailsIf fails before now V
fails_if false before now W V wider h = h
fails_if true before now W V wider (at, failed, w) = (at, failed, wider at w)

-- one step fails after others that did not
pub fails_then : (fails so : Bool) (start before now : List ℕ → Bool) (W V : List ℕ → Type 0) → before ≡ start → fails ≡ so → ((at : List ℕ) → W at → V at)
    → FailsIf fails before now W → FailsIf so start now V
fails_then fails so start before now W V same alike wider h =
    subst (λ t. FailsIf t start now V) alike (subst (λ s. FailsIf fails s now V) same (fails_if fails before now W V wider h))

-- what the last step answers is the answer
pub fails_last : {T E : Type 0} (is_fault : E → Bool) (start before now : List ℕ → Bool) (result : Result T E) (W V : List ℕ → Type 0) → before ≡ start
    → ((at : List ℕ) → W at → V at) → FailsAt is_fault before now result W → FailsAt is_fault start now result V
fails_last is_fault start before now (Ok x) W V same wider h = h ∙ same
fails_last is_fault start before now (Err e) W V same wider h = fails_then (is_fault e) (is_fault e) start before now W V same refl wider h

-- ---- several calls

or_widened : {A B C : Type 0} → (B → C) → A ⊎ B → A ⊎ C
or_widened f (inl a) = inl a
or_widened f (inr b) = inr (f b)

or_here : (before : List ℕ → Bool) (at path : List ℕ) (W : List ℕ → Type 0) → W at → (before path ≡ true) ⊎ (path ≡ at) → (before path ≡ true) ⊎ W path
or_here before at path W w (inl was) = inl was
or_here before at path W w (inr same) = inr (subst W (sym same) w)

-- no call, or one that failed nowhere
pub only_none : (before now : List ℕ → Bool) (W : List ℕ → Type 0) → now ≡ before → FailsOnlyWhere before now W
only_none before now W same path is = inl (subst (λ (f : List ℕ → Bool). f path ≡ true) same is)

pub only_if : (fails : Bool) (before now : List ℕ → Bool) (W : List ℕ → Type 0) → FailsIf fails before now W → FailsOnlyWhere before now W
only_if false before now W same = only_none before now W same
only_if true before now W (at, failed, w) = λ path is. or_here before at path W w (failed.alone path is)

pub only_at : {T E : Type 0} (is_failure : E → Bool) (before now : List ℕ → Bool) (result : Result T E) (W : List ℕ → Type 0) → FailsAt is_failure before now result W → FailsOnlyWhere before now W
only_at is_failure before now (Ok x) W same = only_none before now W same
only_at is_failure before now (Err e) W h = only_if (is_failure e) before now W h

pub only_wider : (before now : List ℕ → Bool) (W V : List ℕ → Type 0) → ((at : List ℕ) → W at → V at) → FailsOnlyWhere before now W → FailsOnlyWhere before now V
only_wider before now W V wider h path is = or_widened (wider path) (h path is)

or_before : {A B C : Type 0} → (A → B ⊎ C) → A ⊎ C → B ⊎ C
or_before f (inl a) = f a
or_before f (inr c) = inr c

-- some calls, and then others
pub only_then : (before mid now : List ℕ → Bool) (W : List ℕ → Type 0) → FailsOnlyWhere before mid W → FailsOnlyWhere mid now W → FailsOnlyWhere before now W
only_then before mid now W first second path is = or_before (first path) (second path is)

-- by each pair that agrees: what looks where the calls failed is part of a whole
pub only_wider_in_each : (agrees : Files → Listings → Type 0) (before now : List ℕ → Bool) (Here Whole : Files → Listings → List ℕ → Type 0)
    → ((files : Files) (listings : Listings) → agrees files listings → (at : List ℕ) → Here files listings at → Whole files listings at)
    → FailsOnlyWhere before now (λ at. InEachPair agrees (λ files listings. Here files listings at))
    → FailsOnlyWhere before now (λ at. InEachPair agrees (λ files listings. Whole files listings at))
only_wider_in_each agrees before now Here Whole wider =
    only_wider before now (λ at. InEachPair agrees (λ files listings. Here files listings at)) (λ at. InEachPair agrees (λ files listings. Whole files listings at))
    (λ at h files listings agreed. wider files listings agreed at (h files listings agreed))

-- some calls of a whole, and then others that are part of it
pub only_more_in_each : (agrees agrees' : Files → Listings → Type 0) (before mid now : List ℕ → Bool) (Here Whole : Files → Listings → List ℕ → Type 0) → Narrows agrees agrees'
    → ((files : Files) (listings : Listings) → agrees files listings → (at : List ℕ) → Here files listings at → Whole files listings at)
    → FailsOnlyWhere before mid (λ at. InEachPair agrees (λ files listings. Whole files listings at))
    → FailsOnlyWhere mid now (λ at. InEachPair agrees' (λ files listings. Here files listings at))
    → FailsOnlyWhere before now (λ at. InEachPair agrees' (λ files listings. Whole files listings at))
only_more_in_each agrees agrees' before mid now Here Whole narrows wider first second =
    only_then before mid now (λ at. InEachPair agrees' (λ files listings. Whole files listings at))
    (only_wider before mid (λ at. InEachPair agrees (λ files listings. Whole files listings at)) (λ at. InEachPair agrees' (λ files listings. Whole files listings at))
    (λ at h files listings agreed. h files listings (narrows files listings agreed)) first)
    (only_wider_in_each agrees' mid now Here Whole (λ files listings agreed. wider files listings (narrows files listings agreed)) second)
