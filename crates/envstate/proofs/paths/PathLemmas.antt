-- What adds and drops keep.
use Rattle.std.proofs.Common.{◌≡◌, ℕ, ◌+◌, ◌-◌, ◌<◌, ◌≤◌, Bool, true, false, cond, not, ◌||◌, ◌&&◌, List, [], ◌∷◌, ◌++◌}
use Rattle.std.proofs.Common.{refl, sym, ap, ◌∙◌, subst, arith, ltb, leb, append-nil}
use Rattle.std.specs.Prelude.{filter, count_by, bytes_eq, if◌then◌else◌}
use Rattle.std.proofs.lemmas.Bool.Decides.{nat_tests}
use Rattle.std.proofs.lemmas.List.Elements.{filter-append}
use Rattle.std.proofs.lemmas.List.Sums.{sum_by-cons}
use Rattle.envvars.specs.Texts.{Text, has}
use Rattle.envvars.specs.Fields.{without}
use Rattle.envstate.specs.paths.Paths.{PathState, IsPathState, put_at, one_higher, one_lower, add, drop, add_front, add_back}
use Rattle.envstate.specs.paths.Paths.{add_all, drop_all}
use Rattle.envstate.specs.paths.PathRuns.{PathChange, after, adds, drops, live, EachDropUndoes, IsPathStartWith}
use Rattle.envstate.specs.paths.PathRuns.PathChange.{Add, Drop}
use Rattle.envstate.specs.declared.paths.adding.End.{End}
use Rattle.envstate.specs.declared.paths.adding.End.TheVariants.{Front, Back}
use Rattle.envvars.proofs.TextLemmas.{same_text, bytes_eq-same, has-push, has-without, filter-without}

has-put_at : (xs : List Text) (x y : Text) (end : End) → has y (put_at xs x end) ≡ (bytes_eq y x || has y xs)
has-put_at xs x y Front = refl
has-put_at xs x y Back = has-push xs x y

-- an element that is there already
there : (xs : List Text) (x y : Text) (b : Bool) → bytes_eq y x ≡ b → has x xs ≡ true → has y xs ≡ (b || has y xs)
there xs x y true e h = ap (λ (t : Text). has t xs) (same_text y x e) ∙ h
there xs x y false e h = refl

pub has-added_if : (xs : List Text) (x y : Text) (end : End) (t : Bool) → has x xs ≡ t → has y (cond t xs (put_at xs x end)) ≡ (bytes_eq y x || has y xs)
has-added_if xs x y end true h = there xs x y (bytes_eq y x) refl h
has-added_if xs x y end false h = has-put_at xs x y end

up_test : (b h : Bool) (n : ℕ) → h ≡ ltb 0 n → (b || h) ≡ ltb 0 (n + cond b 1 0)
up_test true h n e = grind (arith, nat_tests)
up_test false h n e = grind (arith, nat_tests)

-- the element's own counter decides
down_test : (b h : Bool) (n m : ℕ) → h ≡ ltb 0 n → (b ≡ true → n ≡ m) → leb m 1 ≡ true → (not b && h) ≡ ltb 0 (n - cond b 1 0)
down_test true h n m e same one = let k : n ≡ m = same refl in grind (arith, nat_tests)
down_test false h n m e same one = grind (arith, nat_tests)

stay_test : (b h : Bool) (n m : ℕ) → h ≡ ltb 0 n → (b ≡ true → n ≡ m) → leb m 1 ≡ false → h ≡ ltb 0 (n - cond b 1 0)
stay_test true h n m e same one = let k : n ≡ m = same refl in grind (arith, nat_tests)
stay_test false h n m e same one = grind (arith, nat_tests)

pub IsPathState-add : (s : PathState) (x : Text) (end : End) → IsPathState s → IsPathState (add s x end)
IsPathState-add s x end is = λ y. has-added_if s.elements x y end (has x s.elements) refl ∙ up_test (bytes_eq y x) (has y s.elements) (s.counter y) (is y)

drop_if : (s : PathState) (x y : Text) (t : Bool) → leb (s.counter x) 1 ≡ t → IsPathState s → has y (cond t (without x s.elements) s.elements) ≡ ltb 0 (s.counter y - cond (bytes_eq y x) 1 0)
drop_if s x y true e is =
    has-without s.elements x y ∙ down_test (bytes_eq y x) (has y s.elements) (s.counter y) (s.counter x) (is y) (λ b. ap s.counter (same_text y x b)) e
drop_if s x y false e is =
    stay_test (bytes_eq y x) (has y s.elements) (s.counter y) (s.counter x) (is y) (λ b. ap s.counter (same_text y x b)) e

pub IsPathState-drop : (s : PathState) (x : Text) → IsPathState s → IsPathState (drop s x)
IsPathState-drop s x is = λ y. drop_if s x y (leb (s.counter x) 1) refl is

-- What stands, by the counters alone: the list is in `order`, and `inside` follows.
record Kept (start : PathState) (live : Text → ℕ) (now : PathState) : Type 0 where
  valid : IsPathState now
  order : filter (λ x. has x start.elements) now.elements ≡ start.elements
  counters : (x : Text) → now.counter x ≡ start.counter x + live x

or_true : (b : Bool) → (b || true) ≡ true
or_true true = refl
or_true false = refl

one : (x : Text) → one_higher (λ _. 0) x x ≡ 1
one x = rw bytes_eq-same refl

filter_itself : (xs ys : List Text) → ((y : Text) → has y ys ≡ true → has y xs ≡ true) → filter (λ y. has y xs) ys ≡ ys
filter_itself xs [] h = refl
filter_itself xs (y ∷ ys) h =
    rw (h y (rw bytes_eq-same refl)) (ap (λ (l : List Text). y ∷ l) (filter_itself xs ys (λ z e. h z (rw e (or_true (bytes_eq z y))))))

nothing_live : (start : PathState) → IsPathState start → Kept start (λ _. 0) start
nothing_live start is = record { valid = is; order = filter_itself start.elements start.elements (λ y e. e); counters = λ x. omega arith }

kept_more : (start : PathState) (live more : Text → ℕ) (now : PathState) → ((x : Text) → live x ≡ more x) → Kept start live now → Kept start more now
kept_more start live more now same k = record { valid = k.valid; order = k.order; counters = λ x. k.counters x ∙ ap (λ n. start.counter x + n) (same x) }

order_placed : (p : Text → Bool) (xs : List Text) (x : Text) (end : End) → p x ≡ false → filter p (put_at xs x end) ≡ filter p xs
order_placed p xs x Front q = rw q refl
order_placed p xs x Back q = filter-append p xs (x ∷ []) ∙ (rw q (append-nil _))

order_add : (p : Text → Bool) (xs : List Text) (x : Text) (end : End) (t : Bool) → (t ≡ false → p x ≡ false) → filter p (cond t xs (put_at xs x end)) ≡ filter p xs
order_add p xs x end true h = refl
order_add p xs x end false h = order_placed p xs x end (h refl)

order_drop : (p : Text → Bool) (xs : List Text) (x : Text) (t : Bool) → (t ≡ true → p x ≡ false) → filter p (cond t (without x xs) xs) ≡ filter p xs
order_drop p xs x true h = filter-without p x xs (h refl)
order_drop p xs x false h = refl

absent : (h g : Bool) (n m k : ℕ) → h ≡ ltb 0 n → g ≡ ltb 0 m → n ≡ m + k → h ≡ false → g ≡ false
absent h g n m k e f s q = grind (arith, nat_tests)

gone : (g : Bool) (n m k : ℕ) → g ≡ ltb 0 m → n ≡ m + k → 0 < k → leb n 1 ≡ true → g ≡ false
gone g n m k f s l q = grind (arith, nat_tests)

kept_add : (start : PathState) (live : Text → ℕ) (now : PathState) (x : Text) (end : End) → IsPathState start → Kept start live now → Kept start (one_higher live x) (add now x end)
kept_add start live now x end is k = record {
  valid = IsPathState-add now x end k.valid;
  order = order_add (λ y. has y start.elements) now.elements x end (has x now.elements)
      (λ q. absent (has x now.elements) (has x start.elements) (now.counter x) (start.counter x) (live x) (k.valid x)
      (is x) (k.counters x) q) ∙ k.order;
  counters = λ y. let e : now.counter y ≡ start.counter y + live y = k.counters y in omega arith;
}

take_one : (b : Bool) (n m k : ℕ) → n ≡ m + k → (b ≡ true → 0 < k) → n - cond b 1 0 ≡ m + (k - cond b 1 0)
take_one true n m k e h = let l : 0 < k = h refl in omega arith
take_one false n m k e h = omega arith

kept_drop : (start : PathState) (live : Text → ℕ) (now : PathState) (x : Text) → IsPathState start → Kept start live now → 0 < live x → Kept start (one_lower live x) (drop now x)
kept_drop start live now x is k l = record {
  valid = IsPathState-drop now x k.valid;
  order = order_drop (λ y. has y start.elements) now.elements x (leb (now.counter x) 1)
      (λ q. gone (has x start.elements) (now.counter x) (start.counter x) (live x) (is x) (k.counters x) l q) ∙ k.order;
  counters = λ y. take_one (bytes_eq y x) (now.counter y) (start.counter y) (live y) (k.counters y) (λ b. subst (λ (t : Text). 0 < live t) (sym (same_text y x b)) l);
}

count_cons : (x y : Text) (xs : List Text) → count_by (bytes_eq y) (x ∷ xs) ≡ (if bytes_eq y x then 1 else 0) + count_by (bytes_eq y) xs
count_cons x y xs = sum_by-cons (λ z. cond (bytes_eq y z) 1 0) x xs

-- several at once
kept_add_front : (start : PathState) (live : Text → ℕ) (now : PathState) (xs : List Text) → IsPathState start
    → Kept start live now → Kept start (λ y. live y + count_by (bytes_eq y) xs) (add_front now xs)
kept_add_front start live now [] is k = kept_more start live _ now (λ y. omega arith) k
kept_add_front start live now (x ∷ xs) is k =
    kept_more start (one_higher (λ y. live y + count_by (bytes_eq y) xs) x) _ _ (λ y. omega (arith, count_cons x y xs)) (kept_add start _ _ x Front is (kept_add_front start live now xs is k))

kept_add_back : (start : PathState) (live : Text → ℕ) (now : PathState) (xs : List Text) → IsPathState start
    → Kept start live now → Kept start (λ y. live y + count_by (bytes_eq y) xs) (add_back now xs)
kept_add_back start live now [] is k = kept_more start live _ now (λ y. omega arith) k
kept_add_back start live now (x ∷ xs) is k =
    kept_more start (λ y. one_higher live x y + count_by (bytes_eq y) xs) _ _ (λ y. omega (arith, count_cons x y xs))
    (kept_add_back start (one_higher live x) (add now x Back) xs is (kept_add start live now x Back is k))

kept_add_all : (start : PathState) (live : Text → ℕ) (now : PathState) (xs : List Text) (end : End) → IsPathState start
    → Kept start live now → Kept start (λ y. live y + count_by (bytes_eq y) xs) (add_all now xs end)
kept_add_all start live now xs Front is k = kept_add_front start live now xs is k
kept_add_all start live now xs Back is k = kept_add_back start live now xs is k

kept_drop_all : (start : PathState) (live : Text → ℕ) (now : PathState) (xs : List Text) → IsPathState start
    → Kept start live now → ((y : Text) → count_by (bytes_eq y) xs ≤ live y)
    → Kept start (λ y. live y - count_by (bytes_eq y) xs) (drop_all now xs)
kept_drop_all start live now [] is k h = kept_more start live _ now (λ y. omega arith) k
kept_drop_all start live now (x ∷ xs) is k h =
    kept_more start (λ y. one_lower live x y - count_by (bytes_eq y) xs) _ _ (λ y. omega (arith, count_cons x y xs))
    (kept_drop_all start (one_lower live x) (drop now x) xs is
    (kept_drop start live now x is k (omega (arith, one x, count_cons x x xs, h x)))
    (λ y. omega (arith, count_cons x y xs, h y)))

-- a whole list of edits, from any point of one
kept_after : (start : PathState) (live : Text → ℕ) (now : PathState) (edits : List PathChange) → IsPathState start → Kept start live now
    → ((done rest : List PathChange) → done ++ rest ≡ edits → (x : Text) → drops done x ≤ live x + adds done x)
    → Kept start (λ x. live x + adds edits x - drops edits x) (after edits now)
kept_after start live now [] is k h = kept_more start live _ now (λ y. omega arith) k
kept_after start live now (Add xs end ∷ edits) is k h =
    kept_more start (λ x. live x + count_by (bytes_eq x) xs + adds edits x - drops edits x) _ _ (λ y. omega arith)
    (kept_after start (λ x. live x + count_by (bytes_eq x) xs) (add_all now xs end) edits is (kept_add_all start live now xs end is k)
    (λ done rest e x. let b : drops done x ≤ live x + (count_by (bytes_eq x) xs + adds done x) = h (Add xs end ∷ done) rest (ap (λ (l : List PathChange). Add xs end ∷ l) e) x in omega arith))
kept_after start live now (Drop xs ∷ edits) is k h =
    let first : (x : Text) → count_by (bytes_eq x) xs ≤ live x = λ x. (let b : count_by (bytes_eq x) xs + 0 ≤ live x + 0 = h (Drop xs ∷ []) edits refl x in omega arith) in
    kept_more start (λ x. live x - count_by (bytes_eq x) xs + adds edits x - drops edits x) _ _ (λ y. let b : count_by (bytes_eq y) xs ≤ live y = first y in omega arith)
    (kept_after start (λ x. live x - count_by (bytes_eq x) xs) (drop_all now xs) edits is (kept_drop_all start live now xs is k first)
    (λ done rest e x.
    let b : count_by (bytes_eq x) xs + drops done x ≤ live x + adds done x = h (Drop xs ∷ done) rest (ap (λ (l : List PathChange). Drop xs ∷ l) e) x in
    let f : count_by (bytes_eq x) xs ≤ live x = first x in omega arith))

either_test : (h g : Bool) (n m k : ℕ) → h ≡ ltb 0 n → g ≡ ltb 0 m → n ≡ m + k → h ≡ (g || ltb 0 k)
either_test h g n m k e f s = grind (arith, nat_tests)

pub IsPathStartWith-after : (start : PathState) (edits : List PathChange) → IsPathState start → EachDropUndoes edits → IsPathStartWith start (live edits) (after edits start)
IsPathStartWith-after start edits is each =
    let k : Kept start (live edits) (after edits start) = kept_more start (λ x. 0 + adds edits x - drops edits x)
    (live edits) (after edits start) (λ x. omega arith)
    (kept_after start (λ _. 0) start edits is (nothing_live start is)
    (λ done rest e x. let b : drops done x ≤ adds done x = each done rest e x in omega arith)) in
    record {
      order = k.order;
      inside = λ x. either_test _ _ _ _ _ (k.valid x) (is x) (k.counters x);
      counters = k.counters;
    }

or_nothing : (h g : Bool) (n : ℕ) → h ≡ (g || ltb 0 n) → n ≡ 0 → h ≡ true → g ≡ true
or_nothing h g n e z q = grind (arith, nat_tests)

-- two states with the same list and counters are one
pub same_state : (s t : PathState) → s.elements ≡ t.elements → ((x : Text) → s.counter x ≡ t.counter x) → s ≡ t
same_state s t e f = λ i. record { elements = e i; counter = λ x. f x i }

-- where nothing is live, what stands over the start is the start
pub IsPathStartWith-restored : (start now : PathState) (count : Text → ℕ) → IsPathStartWith start count now → ((x : Text) → count x ≡ 0) → now ≡ start
IsPathStartWith-restored start now count k none =
    same_state now start
    (sym (filter_itself start.elements now.elements (λ y e. or_nothing _ _ (count y) (k.inside y) (none y) e)) ∙ k.order)
    (λ x. let a : now.counter x ≡ start.counter x + count x = k.counters x in let b : count x ≡ 0 = none x in omega arith)

-- the law step by step

valid_from : (h g : Bool) (n m k : ℕ) → h ≡ (g || ltb 0 k) → g ≡ ltb 0 m → n ≡ m + k → h ≡ ltb 0 n
valid_from h g n m k e f s = grind (arith, nat_tests)

kept_from : (start now : PathState) (live : Text → ℕ) → IsPathState start → IsPathStartWith start live now → Kept start live now
kept_from start now live is s = record {
  valid = λ x. valid_from _ _ _ _ _ (s.inside x) (is x) (s.counters x);
  order = s.order;
  counters = s.counters;
}

stands_from : (start now : PathState) (live : Text → ℕ) → IsPathState start → Kept start live now → IsPathStartWith start live now
stands_from start now live is k = record {
  order = k.order;
  inside = λ x. either_test _ _ _ _ _ (k.valid x) (is x) (k.counters x);
  counters = k.counters;
}

pub IsPathStartWith-start : (start : PathState) → IsPathState start → IsPathStartWith start (λ _. 0) start
IsPathStartWith-start start is = stands_from start start (λ _. 0) is (nothing_live start is)

pub IsPathStartWith-add_all : (start now : PathState) (live : Text → ℕ) (xs : List Text) (end : End) → IsPathState start
    → IsPathStartWith start live now → IsPathStartWith start (λ x. live x + count_by (bytes_eq x) xs)
    (add_all now xs end)
IsPathStartWith-add_all start now live xs end is s = stands_from start (add_all now xs end) _ is (kept_add_all start live now xs end is (kept_from start now live is s))

pub IsPathStartWith-drop_all : (start now : PathState) (live : Text → ℕ) (xs : List Text) → IsPathState start → IsPathStartWith start live now → ((x : Text) → count_by (bytes_eq x) xs ≤ live x)
    → IsPathStartWith start (λ x. live x - count_by (bytes_eq x) xs) (drop_all now xs)
IsPathStartWith-drop_all start now live xs is s h = stands_from start (drop_all now xs) _ is (kept_drop_all start live now xs is (kept_from start now live is s) h)
