-- The live modules: one more, and one less.
use Rattle.std.proofs.Common.{◌≡◌, ◌+◌, Bool, true, false, not, ◌||◌, List, [], ◌∷◌, ◌++◌, map, refl, sym, ap, ◌∙◌}
use Rattle.std.proofs.Common.{subst, arith, Option, Some, None}
use Rattle.std.specs.Prelude.{bytes_eq, is_some}
use Rattle.std.specs.Option.{option_or}
use Rattle.std.proofs.lemmas.Bool.{false≢true}
use Rattle.std.proofs.lemmas.Option.{same_Some, none-some}
use Rattle.envvars.specs.Texts.{Text, has}
use Rattle.envvars.specs.Fields.{are_distinct}
use Rattle.envvars.proofs.TextLemmas.{same_text, bytes_eq-symmetric, has-push, or_left, or_right}
use Rattle.envvars.proofs.EditLemmas.{both_true, not_is}
use Rattle.envstate.specs.stacks.StackRuns.{other_pushes}
use Rattle.envstate.specs.loaded_list.Loaded.{Entry, names_of, without_entry}
use Rattle.envstate.proofs.StateLemmas.{names_added}
use Rattle.modulefile.specs.Moves.{Module, entry_of}
use Rattle.reversal.specs.VariableUses.{VariableUse, AllSuit}
use Rattle.reversal.specs.Live.{last_set, live_set, adds, live_adds, last_push, with_push, live_pushes, entries_over}
use Rattle.reversal.specs.Starts.{IsPermutation, none, next, swap, transitive}
use Rattle.reversal.specs.Runs.{live_named, without_live, AreReversibleTogether}
use Rattle.reversal.proofs.ModuleEntries.{entry_once}
use Rattle.reversal.proofs.OneVariable.{by_test}
use Rattle.reversal.proofs.OneStack.{popped}

abbrev pub live_names : List Module → List Text
live_names live = map (λ m. m.name) live

-- by the place of a live module

pub adds_less : (w x n : Text) (live : List Module) (m : Module) → live_named n live ≡ Some m → live_adds w live x ≡ adds w x m.records + live_adds w (without_live n live) x
adds_less w x n [] m h = absurd (none-some m h)
adds_less w x n (k ∷ live) m h = by_test (bytes_eq n k.name) _
    (λ t. let q : k ≡ m = same_Some k m (rw t at h) in rw t (ap (λ (y : Module). adds w x y.records + live_adds w live x) q))
    (λ t. let i = adds_less w x n live m (rw t at h) in rw t (omega (arith, i)))

pub suits_of : (uses : Text → VariableUse) (n : Text) (live : List Module) (m : Module) → live_named n live ≡ Some m → AreReversibleTogether uses live → AllSuit uses m.records
suits_of uses n [] m h f = absurd (none-some m h)
suits_of uses n (k ∷ live) m h f = by_test (bytes_eq n k.name) _
    (λ t. let q : k ≡ m = same_Some k m (rw t at h) in subst (λ (y : Module). AllSuit uses y.records) q f.0.suits)
    (λ t. suits_of uses n live m (rw t at h) f.1)

-- what is set

or_none : (a b : Option (Option Text)) → option_or a b ≡ None → (a ≡ None) × (b ≡ None)
or_none None b h = (refl, h)
or_none (Some x) b h = absurd cc

none_of : (o : Option (Option Text)) → is_some o ≡ false → o ≡ None
none_of None h = refl
none_of (Some x) h = absurd (false≢true (sym h))

set_less : (w n : Text) (live : List Module) → live_set w live ≡ None → live_set w (without_live n live) ≡ None
set_less w n [] h = h
set_less w n (k ∷ live) h = let p = or_none (last_set w k.records) (live_set w live) h in by_test (bytes_eq n k.name) _
    (λ t. rw t p.1)
    (λ t. rw (t, p.0) (set_less w n live p.1))

set_there : (w n : Text) (live : List Module) (m : Module) → live_named n live ≡ Some m → is_some (last_set w m.records) ≡ true → live_set w live ≡ None → ⊥
set_there w n [] m h s k = none-some m h
set_there w n (y ∷ live) m h s k = let p = or_none (last_set w y.records) (live_set w live) k in by_test (bytes_eq n y.name) _
    (λ t. let q : y ≡ m = same_Some y m (rw t at h) in false≢true (sym (ap (λ (o : Option (Option Text)). is_some o) p.0) ∙ ap (λ (z : Module). is_some (last_set w z.records)) q ∙ s))
    (λ t. set_there w n live m (rw t at h) s p.1)

pub set_same : (w n : Text) (live : List Module) (m : Module) → live_named n live ≡ Some m → last_set w m.records ≡ None → live_set w (without_live n live) ≡ live_set w live
set_same w n [] m h s = refl
set_same w n (k ∷ live) m h s = by_test (bytes_eq n k.name) _
    (λ t. let q : k ≡ m = same_Some k m (rw t at h) in rw t (ap (λ (o : Option (Option Text)). option_or o (live_set w live)) (sym (ap (λ (z : Module). last_set w z.records) q ∙ s))))
    (λ t. rw t (ap (option_or (last_set w k.records)) (set_same w n live m (rw t at h) s)))

pub set_alone : (uses : Text → VariableUse) (w n : Text) (live : List Module) (m : Module) → live_named n live ≡ Some m
    → AreReversibleTogether uses live → is_some (last_set w m.records) ≡ true → live_set w (without_live n live) ≡ None
set_alone uses w n [] m h f s = refl
set_alone uses w n (k ∷ live) m h f s = by_test (bytes_eq n k.name) _
    (λ t. let q : k ≡ m = same_Some k m (rw t at h) in rw t (f.0.sets_apart w (ap (λ (z : Module). is_some (last_set w z.records)) q ∙ s)))
    (λ t. by_test (is_some (last_set w k.records)) _
    (λ i. absurd (set_there w n live m (rw t at h) s (f.0.sets_apart w i)))
    (λ i. rw (t, none_of (last_set w k.records) i) (set_alone uses w n live m (rw t at h) f.1 s)))

pub fit_less : (uses : Text → VariableUse) (n : Text) (live : List Module) → AreReversibleTogether uses live → AreReversibleTogether uses (without_live n live)
fit_less uses n [] f = tt
fit_less uses n (k ∷ live) f = by_test (bytes_eq n k.name) _
    (λ t. rw t f.1)
    (λ t. rw t (record { suits = f.0.suits; sets_apart = λ v s. set_less v n live (f.0.sets_apart v s) }, fit_less uses n live f.1))

-- what is pushed, in any order

abbrev owners : List (Text × Text) → List Text
owners ps = map (λ p. p.0) ps

pub order_refl : (ps : List (Text × Text)) → IsPermutation ps ps
order_refl [] = none
order_refl (p ∷ ps) = next (order_refl ps)

pub order_with : (m : Text) (o : Option Text) (ps qs : List (Text × Text)) → IsPermutation ps qs → IsPermutation (with_push m o ps) (with_push m o qs)
order_with m None ps qs h = h
order_with m (Some v) ps qs h = next h

order_other : (m : Text) (ps qs : List (Text × Text)) → IsPermutation ps qs → IsPermutation (other_pushes m ps) (other_pushes m qs)
order_other m ps qs none = none
order_other m ps qs (next {p = p} {ps = a} {qs = b} h) = by_test (bytes_eq m p.0) _ (λ e. rw e (order_other m a b h)) (λ e. rw e (next (order_other m a b h)))
order_other m ps qs (swap {p = p} {q = q} {ps = a}) = by_test (bytes_eq m p.0) _
    (λ e. by_test (bytes_eq m q.0) _ (λ g. rw (e, g) (order_refl (other_pushes m a))) (λ g. rw (e, g) (order_refl (q ∷ other_pushes m a))))
    (λ e. by_test (bytes_eq m q.0) _ (λ g. rw (e, g) (order_refl (p ∷ other_pushes m a))) (λ g. rw (e, g) swap))
order_other m ps qs (transitive {ps = a} {qs = b} {rs = c} h k) = transitive (order_other m a b h) (order_other m b c k)

pub order_none : (ps qs : List (Text × Text)) → IsPermutation ps qs → qs ≡ [] → ps ≡ []
order_none ps qs none e = refl
order_none ps qs (next h) e = absurd cc
order_none ps qs swap e = absurd cc
order_none ps qs (transitive {ps = a} {qs = b} {rs = c} h k) e = order_none a b h (order_none b c k e)

or_swap : (a b c : Bool) → (a || (b || c)) ≡ (b || (a || c))
or_swap true true c = refl
or_swap true false c = refl
or_swap false b c = refl

pub order_has : (n : Text) (ps qs : List (Text × Text)) → IsPermutation ps qs → has n (owners ps) ≡ has n (owners qs)
order_has n ps qs none = refl
order_has n ps qs (next {p = p} {ps = a} {qs = b} h) = ap (λ (t : Bool). bytes_eq n p.0 || t) (order_has n a b h)
order_has n ps qs (swap {p = p} {q = q} {ps = a}) = or_swap (bytes_eq n p.0) (bytes_eq n q.0) (has n (owners a))
order_has n ps qs (transitive {ps = a} {qs = b} {rs = c} h k) = order_has n a b h ∙ order_has n b c k

other_absent : (m : Text) (ps : List (Text × Text)) → has m (owners ps) ≡ false → other_pushes m ps ≡ ps
other_absent m [] h = refl
other_absent m (p ∷ ps) h = rw (or_left (bytes_eq m p.0) (has m (owners ps)) h) (ap (λ (l : List (Text × Text)). p ∷ l) (other_absent m ps (or_right (bytes_eq m p.0) (has m (owners ps)) h)))

pub no_push : (n w : Text) (live : List Module) → has n (live_names live) ≡ false → has n (owners (live_pushes w live)) ≡ false
no_push n w [] h = refl
no_push n w (m ∷ live) h = go (last_push w m.records) (or_left (bytes_eq n m.name) (has n (live_names live)) h) (no_push n w live (or_right (bytes_eq n m.name) (has n (live_names live)) h))
  where
    go : (o : Option Text) → bytes_eq n m.name ≡ false → has n (owners (live_pushes w live)) ≡ false → has n (owners (with_push m.name o (live_pushes w live))) ≡ false
    go None e k = k
    go (Some v) e k = rw e k

-- a module that isn't live has no push
pub other_live : (n w : Text) (live : List Module) (ps : List (Text × Text)) → IsPermutation ps (live_pushes w live) → has n (live_names live) ≡ false → other_pushes n ps ≡ ps
other_live n w live ps o h = other_absent n ps (order_has n ps (live_pushes w live) o ∙ no_push n w live h)

-- no live module twice
abbrev pub Distinct : List Module → Type 0
Distinct [] = Unit {0}
Distinct (m ∷ live) = (has m.name (live_names live) ≡ false) × Distinct live

pushes_less : (n w : Text) (live : List Module) → Distinct live → other_pushes n (live_pushes w live) ≡ live_pushes w (without_live n live)
pushes_less n w [] d = refl
pushes_less n w (k ∷ live) d = by_test (bytes_eq n k.name) _
    (λ t. let q = same_text n k.name t in rw t (go t (last_push w k.records)
    (other_live n w live (live_pushes w live) (order_refl (live_pushes w live))
    (ap (λ (z : Text). has z (live_names live)) q ∙ d.0))))
    (λ t. rw t (over t (last_push w k.records) (pushes_less n w live d.1)))
  where
    go : bytes_eq n k.name ≡ true → (o : Option Text) → other_pushes n (live_pushes w live) ≡ live_pushes w live → other_pushes n (with_push k.name o (live_pushes w live)) ≡ live_pushes w live
    go t None h = h
    go t (Some v) h = rw t h

    over : bytes_eq n k.name ≡ false → (o : Option Text)
        → other_pushes n (live_pushes w live) ≡ live_pushes w (without_live n live)
        → other_pushes n (with_push k.name o (live_pushes w live)) ≡ with_push k.name o
        (live_pushes w (without_live n live))
    over t None h = h
    over t (Some v) h = rw t (ap (λ (l : List (Text × Text)). (k.name, v) ∷ l) h)

pushes_same : (n w : Text) (live : List Module) (m : Module) → live_named n live ≡ Some m → last_push w m.records ≡ None → live_pushes w (without_live n live) ≡ live_pushes w live
pushes_same n w [] m h s = refl
pushes_same n w (k ∷ live) m h s = by_test (bytes_eq n k.name) _
    (λ t. let q : k ≡ m = same_Some k m (rw t at h) in rw t (ap (λ (o : Option Text). with_push k.name o (live_pushes w live)) (sym (ap (λ (z : Module). last_push w z.records) q ∙ s))))
    (λ t. rw t (ap (with_push k.name (last_push w k.records)) (pushes_same n w live m (rw t at h) s)))

pub order_popped : (n w : Text) (live : List Module) (m : Module) (ps : List (Text × Text)) → live_named n live ≡ Some m → Distinct live → IsPermutation ps (live_pushes w live)
    → IsPermutation (popped n (last_push w m.records) ps) (live_pushes w (without_live n live))
order_popped n w live m ps h d o = go (last_push w m.records) refl
  where
    go : (q : Option Text) → last_push w m.records ≡ q → IsPermutation (popped n q ps) (live_pushes w (without_live n live))
    go None e = subst (IsPermutation ps) (sym (pushes_same n w live m h e)) o
    go (Some v) e = subst (IsPermutation (other_pushes n ps)) (pushes_less n w live d) (order_other n ps (live_pushes w live) o)

-- the loaded list

-- no live module is among the entries of the start, or twice
abbrev pub Apart : List Entry → List Module → Type 0
Apart xs [] = Unit {0}
Apart xs (m ∷ live) = (has m.name (names_of xs) ≡ false) × (has m.name (live_names live) ≡ false) × Apart xs live

pub apart_distinct : (xs : List Entry) (live : List Module) → Apart xs live → Distinct live
apart_distinct xs [] a = tt
apart_distinct xs (m ∷ live) a = (a.1, apart_distinct xs live a.2)

distinct_last : (n : Text) (ns : List Text) → are_distinct (ns ++ n ∷ []) ≡ true → (has n ns ≡ false) × (are_distinct ns ≡ true)
distinct_last n [] h = (refl, refl)
distinct_last n (k ∷ ns) h =
    let p = both_true (not (has k (ns ++ n ∷ []))) (are_distinct (ns ++ n ∷ [])) h in
    let a : (bytes_eq k n || has k ns) ≡ false = sym (has-push ns n k) ∙ not_is (has k (ns ++ n ∷ [])) p.0 in
    let b = distinct_last n ns p.1 in
    let c : bytes_eq n k ≡ false = bytes_eq-symmetric n k ∙ or_left (bytes_eq k n) (has k ns) a in
    (rw c b.0, rw (or_right (bytes_eq k n) (has k ns) a) b.1)

pub names_over : (xs : List Entry) (m : Module) (live : List Module) → names_of (entries_over xs (m ∷ live)) ≡ names_of (entries_over xs live) ++ m.name ∷ []
names_over xs m live = ap (λ (y : Entry). names_of (entries_over xs live ++ y ∷ [])) (sym (entry_once m)) ∙ names_added (entries_over xs live) (entry_of m)

pub fresh : (n : Text) (xs : List Entry) (live : List Module) → has n (names_of (entries_over xs live)) ≡ false → (has n (names_of xs) ≡ false) × (has n (live_names live) ≡ false)
fresh n xs [] h = (h, refl)
fresh n xs (m ∷ live) h =
    let a : (bytes_eq n m.name || has n (names_of (entries_over xs live))) ≡ false = sym (has-push (names_of (entries_over xs live)) m.name n) ∙ ap (has n) (sym (names_over xs m live)) ∙ h in
    let b = fresh n xs live (or_right (bytes_eq n m.name) (has n (names_of (entries_over xs live))) a) in
    (b.0, rw (or_left (bytes_eq n m.name) (has n (names_of (entries_over xs live))) a) b.1)

pub apart_of : (xs : List Entry) (live : List Module) → are_distinct (names_of (entries_over xs live)) ≡ true → Apart xs live
apart_of xs [] h = tt
apart_of xs (m ∷ live) h =
    let a = distinct_last m.name (names_of (entries_over xs live)) (ap are_distinct (sym (names_over xs m live)) ∙ h) in
    let b = fresh m.name xs live a.0 in
    (b.0, b.1, apart_of xs live a.1)

pub apart_named : (n : Text) (xs : List Entry) (live : List Module) (m : Module) → live_named n live ≡ Some m → Apart xs live → has n (names_of xs) ≡ false
apart_named n xs [] m h a = absurd (none-some m h)
apart_named n xs (k ∷ live) m h a = by_test (bytes_eq n k.name) _
    (λ t. ap (λ (z : Text). has z (names_of xs)) (same_text n k.name t) ∙ a.0)
    (λ t. apart_named n xs live m (rw t at h) a.2)

less_absent : (n : Text) (live : List Module) → has n (live_names live) ≡ false → without_live n live ≡ live
less_absent n [] h = refl
less_absent n (k ∷ live) h = rw (or_left (bytes_eq n k.name) (has n (live_names live)) h)
    (ap (λ (l : List Module). k ∷ l) (less_absent n live (or_right (bytes_eq n k.name) (has n (live_names live)) h)))

-- it isn't live any more
pub gone : (n : Text) (live : List Module) → Distinct live → has n (live_names (without_live n live)) ≡ false
gone n [] d = refl
gone n (k ∷ live) d = by_test (bytes_eq n k.name) _
    (λ t. rw t (ap (λ (z : Text). has z (live_names live)) (same_text n k.name t) ∙ d.0))
    (λ t. rw (t, t) (gone n live d.1))

kept_all : (n : Text) (xs : List Entry) → has n (names_of xs) ≡ false → without_entry n xs ≡ xs
kept_all n [] h = refl
kept_all n (x ∷ xs) h = rw (or_left (bytes_eq n x.name) (has n (names_of xs)) h) (ap (λ (l : List Entry). x ∷ l) (kept_all n xs (or_right (bytes_eq n x.name) (has n (names_of xs)) h)))

entry_gone : (n : Text) (ys : List Entry) (y : Entry) → bytes_eq n y.name ≡ true → without_entry n (ys ++ y ∷ []) ≡ without_entry n ys
entry_gone n [] y t = rw t refl
entry_gone n (x ∷ ys) y t = by_test (bytes_eq n x.name) _ (λ e. rw e (entry_gone n ys y t)) (λ e. rw e (ap (λ (l : List Entry). x ∷ l) (entry_gone n ys y t)))

entry_stays : (n : Text) (ys : List Entry) (y : Entry) → bytes_eq n y.name ≡ false → without_entry n (ys ++ y ∷ []) ≡ without_entry n ys ++ y ∷ []
entry_stays n [] y t = rw t refl
entry_stays n (x ∷ ys) y t = by_test (bytes_eq n x.name) _ (λ e. rw e (entry_stays n ys y t)) (λ e. rw e (ap (λ (l : List Entry). x ∷ l) (entry_stays n ys y t)))

pub entries_less : (n : Text) (xs : List Entry) (live : List Module) → has n (names_of xs) ≡ false → Distinct live → without_entry n (entries_over xs live) ≡ entries_over xs (without_live n live)
entries_less n xs [] h d = kept_all n xs h
entries_less n xs (k ∷ live) h d = by_test (bytes_eq n k.name) _
    (λ t. entry_gone n (entries_over xs live) (entry_of k) t ∙ entries_less n xs live h d.1
    ∙ ap (entries_over xs) (less_absent n live (ap (λ (z : Text). has z (live_names live)) (same_text n k.name t) ∙ d.0) ∙ head t))
    (λ t. entry_stays n (entries_over xs live) (entry_of k) t ∙ ap (λ (l : List Entry). l ++ entry_of k ∷ []) (entries_less n xs live h d.1) ∙ ap (entries_over xs) (tail t))
  where
    head : bytes_eq n k.name ≡ true → live ≡ without_live n (k ∷ live)
    head t = rw t refl

    tail : bytes_eq n k.name ≡ false → k ∷ without_live n live ≡ without_live n (k ∷ live)
    tail t = rw t refl

or_true : (a b : Bool) → b ≡ true → (a || b) ≡ true
or_true true b h = refl
or_true false b h = h

-- the names that are there with one module more
pub more_there : (n : Text) (xs : List Entry) (m : Module) (live : List Module) → has n (names_of (entries_over xs live)) ≡ true → has n (names_of (entries_over xs (m ∷ live))) ≡ true
more_there n xs m live h = ap (has n) (names_over xs m live) ∙ has-push (names_of (entries_over xs live)) m.name n ∙ or_true (bytes_eq n m.name) (has n (names_of (entries_over xs live))) h

pub newest_there : (n : Text) (xs : List Entry) (m : Module) (live : List Module) → bytes_eq n m.name ≡ true → has n (names_of (entries_over xs (m ∷ live))) ≡ true
newest_there n xs m live t = ap (has n) (names_over xs m live) ∙ has-push (names_of (entries_over xs live)) m.name n ∙ ap (λ (b : Bool). b || has n (names_of (entries_over xs live))) t

pub named_there : (n : Text) (xs : List Entry) (live : List Module) (m : Module) → live_named n live ≡ Some m → has n (names_of (entries_over xs live)) ≡ true
named_there n xs [] m h = absurd (none-some m h)
named_there n xs (k ∷ live) m h = by_test (bytes_eq n k.name) _
    (λ t. newest_there n xs k live t)
    (λ t. more_there n xs k live (named_there n xs live m (rw t at h)))
