-- One path: what hands leave of it, and the path of the start after the same change.
use Rattle.std.proofs.Common.{◌≡◌, ℕ, ◌+◌, ◌-◌, ◌≤◌, Bool, true, false, not, ◌&&◌, ◌||◌, List, [], ◌∷◌}
use Rattle.std.proofs.Common.{refl, sym, ap, ◌∙◌, arith, ltb}
use Rattle.std.specs.Prelude.{bytes_eq, filter, nat_lt, Option}
use Rattle.std.proofs.lemmas.Bool.Decides.{nat_tests}
use Rattle.std.proofs.lemmas.Map.Views.{any-filter_same}
use Rattle.envvars.specs.Texts.{Text, has}
use Rattle.envvars.proofs.TextLemmas.{same_text, bytes_eq-same}
use Rattle.envstate.specs.paths.Paths.{PathState, IsPathState, largest_counter}
use Rattle.envstate.specs.paths.PathRuns.{IsPathStartWith}
use Rattle.envstate.specs.paths.PathTexts.{IsWritable, state_of}
use Rattle.envstate.proofs.paths.RoundTrip.{unparted_filter}
use Rattle.requests.specs.hand_changes.HandChanges.{is_of_live_alone, without_live_adds}

pub by_test : (t : Bool) (P : Type 0) → (t ≡ true → P) → (t ≡ false → P) → P
by_test true P f g = f refl
by_test false P f g = g refl

or_true : (b : Bool) → (b || true) ≡ true
or_true true = refl
or_true false = refl

or_false : (b : Bool) → (b || false) ≡ b
or_false true = refl
or_false false = refl

has-filter : (p : Text → Bool) (x : Text) (xs : List Text) → has x (filter p xs) ≡ (p x && has x xs)
has-filter p x xs = any-filter_same (bytes_eq x) p (p x) (λ y e. ap p (sym (same_text x y e))) xs

-- two tests that agree on the elements of a list keep the same of them
pub filter_agree : (p q : Text → Bool) (xs : List Text) → ((x : Text) → has x xs ≡ true → p x ≡ q x) → filter p xs ≡ filter q xs
filter_agree p q [] h = refl
filter_agree p q (x ∷ xs) h =
    let first : p x ≡ q x = h x (rw bytes_eq-same refl) in
    let rest : filter p xs ≡ filter q xs = filter_agree p q xs (λ y k. h y (rw k (or_true _))) in
    rw (first, rest) refl

-- What a path is before a change by hand and after it, over a start with live adds: elements that both have are counted
-- alike, and none with live adds is gone.
pub record Leaves (start : PathState) (live : Text → ℕ) (old new : PathState) : Type 0 where
  pub valid : IsPathState start
  pub before : IsPathStartWith start live old
  pub counted : (x : Text) → has x old.elements ≡ true → has x new.elements ≡ true → new.counter x ≡ old.counter x
  pub there : (x : Text) → nat_lt 0 (live x) ≡ true → has x new.elements ≡ true

none_live : (n : ℕ) → ltb 0 n ≡ false → n ≡ 0
none_live n h = grind (arith, nat_tests)

-- an element with live adds is counted as in the start and by them
live_counted : (start : PathState) (live : Text → ℕ) (old new : PathState) → Leaves start live old new → (x : Text)
    → nat_lt 0 (live x) ≡ true → new.counter x ≡ start.counter x + live x
live_counted start live old new l x h =
    l.counted x (l.before.inside x ∙ rw h (or_true (has x start.elements))) (l.there x h) ∙ l.before.counters x

test_live : (p h g n : Bool) → n ≡ true → p ≡ not (n && not g) → h ≡ true → h ≡ ((p && h) || n)
test_live p h g n e q k = rw (k, e) (sym (or_true _))

inside_after : (s h l : Bool) → (l ≡ true → h ≡ true) → h ≡ ((not (l && not s) && h) || l)
inside_after s h true f = rw (f refl) (sym (or_true _))
inside_after s h false f = sym (or_false h)

pub start_with_after : (start : PathState) (live : Text → ℕ) (old new : PathState) → Leaves start live old new
    → IsPathStartWith (without_live_adds start live new) live new
start_with_after start live old new l = record {
  order = filter_agree (λ x. has x (filter kept new.elements)) kept new.elements (λ x h. has-filter kept x new.elements ∙ rw h (and_true (kept x)));
  inside = λ x. inside_after (has x start.elements) (has x new.elements) (nat_lt 0 (live x)) (l.there x)
      ∙ ap (λ (b : Bool). b || nat_lt 0 (live x)) (sym (has-filter kept x new.elements));
  counters = λ x. by_test (nat_lt 0 (live x)) _
      (λ h. let c : new.counter x ≡ start.counter x + live x = live_counted start live old new l x h in omega arith)
      (λ h. let c : live x ≡ 0 = none_live (live x) h in omega arith);
}
  where
    kept : Text → Bool
    kept x = not (is_of_live_alone start live x)

    and_true : (b : Bool) → (b && true) ≡ b
    and_true true = refl
    and_true false = refl

state_after : (s h l : Bool) (m k n : ℕ) → s ≡ ltb 0 m → l ≡ ltb 0 k → h ≡ ltb 0 n → (l ≡ true → n ≡ m + k) → (l ≡ true → h ≡ true)
    → (not (l && not s) && h) ≡ ltb 0 (n - k)
state_after s h true m k n e f g c t =
    let q : n ≡ m + k = c refl in
    let r : h ≡ true = t refl in
    rw r (and_same s ∙ e ∙ (let d : n - k ≡ m = omega arith in ap (ltb 0) (sym d)))
  where
    and_same : (b : Bool) → (not (not b) && true) ≡ b
    and_same true = refl
    and_same false = refl
state_after s h false m k n e f g c t = g ∙ (let z : k ≡ 0 = none_live k (sym f) in let d : n - k ≡ n = omega arith in ap (ltb 0) (sym d))

-- so it is a state that two texts can be read as
pub writable_after : (d : ℕ) (start : PathState) (live : Text → ℕ) (old new : PathState) → Leaves start live old new → IsWritable d new
    → IsWritable d (without_live_adds start live new)
writable_after d start live old new l w = record {
  valid = λ x. has-filter (λ y. not (is_of_live_alone start live y)) x new.elements
      ∙ state_after (has x start.elements) (has x new.elements) (nat_lt 0 (live x)) (start.counter x) (live x) (new.counter x)
      (l.valid x) refl (w.valid x) (live_counted start live old new l x) (l.there x);
  fit = λ x. let f : new.counter x ≤ largest_counter = w.fit x in omega arith;
  no_delimiter = unparted_filter d (λ y. not (is_of_live_alone start live y)) new.elements w.no_delimiter;
}

-- two texts with one text of counters count alike what both have
pub counted_alike : (d : ℕ) (t s u : Option Text) (x : Text) → has x (state_of d t u).elements ≡ true → has x (state_of d s u).elements ≡ true
    → (state_of d s u).counter x ≡ (state_of d t u).counter x
counted_alike d t s u x h k = rw (h, k) refl
