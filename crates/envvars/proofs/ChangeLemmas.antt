-- Changes, written over an environment.
use Rattle.std.proofs.Common.{◌≡◌, Bool, true, false, cond, not, ◌||◌, ◌&&◌, List, [], ◌∷◌, ◌++◌, map, length, subst}
use Rattle.std.proofs.Common.{arith, Bor, Ordering, refl, sym, ap, ◌∙◌, Option, Some, None, Result, Ok, Err, Vec}
use Rattle.std.proofs.Common.{Global, IsTrue}
use Rattle.std.specs.Prelude.{bytes_eq, filter, is_some, unwrap_or, if◌then◌else◌}
use Rattle.std.specs.List.{dedup, dedup_from, AllByRecursion}
use Rattle.std.specs.List.Retain.{IsFiltered, DiffersFromLast}
use Rattle.std.specs.List.Sorted.{IsStrictlySortedBy, IsSorted, IsPermutation}
use Rattle.std.specs.Ordering.{nat_cmp, is_eq}
use Rattle.std.specs.declared.cmp.Ordering.TheVariants.{Less}
use Rattle.std.specs.Cmp.{IsTotalOrder}
use Rattle.std.specs.Cmp.Lexicographic.{slice_cmp, nat_list_cmp_total}
use Rattle.std.specs.FinMap as finite
use Rattle.std.specs.Result.{IfOk}
use Rattle.std.specs.FinMap.{put}
use Rattle.std.proofs.lemmas.Bool.{false≢true}
use Rattle.std.proofs.lemmas.Cmp.{on_total}
use Rattle.std.proofs.lemmas.Map.Text.{is_eq-slice_cmp}
use Rattle.std.proofs.lemmas.List.Filters.{dedup_is}
use Rattle.std.proofs.lemmas.List.Kept.{IsStrictlySortedBy-dedup}
use Rattle.std.proofs.lemmas.Map.Views.{any-filter_same}
use Rattle.std.proofs.lemmas.List.Sorted.{list_any-IsPermutation}
use Rattle.envvars.specs.Texts.{slice_texts, Text, has}
use Rattle.envvars.proofs.TextLemmas.{has-slice_texts, same_text, has-push, bytes_eq-same, bytes_eq-symmetric}
use Rattle.envvars.specs.Environment.{Environment, lookup, with_value}
use Rattle.envvars.specs.declared.change.Change.{Change}
use Rattle.envvars.specs.Changes.{NewValue, same_value, new_value_at, new_values_in, AreChanges, applied}
use Rattle.envvars.specs.Fields.{are_distinct}
use Rattle.envvars.proofs.EnvLemmas.{lookup-with_value, same_environment, with_value-commutes}

-- Changes, written over an environment.

chosen : (b : Bool) (v o : Option Text) (w : Option (Option Text)) → cond b v (unwrap_or w o) ≡ unwrap_or (cond b (Some v) w) o
chosen true v o w = refl
chosen false v o w = refl

pub later_names : (x q : Text) (cs : List NewValue) → AllByRecursion (λ (y : Text). slice_cmp nat_cmp x y ≡ Less) (map (λ (c : NewValue). c.0) cs) → bytes_eq q x ≡ true → new_value_at cs q ≡ None
later_names x q [] h e = refl
later_names x q (c ∷ cs) h e =
    let apart : bytes_eq q c.0 ≡ false = ap (λ (t : Text). bytes_eq t c.0) (same_text q x e) ∙ sym (is_eq-slice_cmp x c.0) ∙ ap is_eq h.0 in
    ap (λ (b : Bool). cond b (Some c.1) (new_value_at cs q)) apart ∙ later_names x q cs h.1 e

chosen_once : (b : Bool) (v o : Option Text) (w : Option (Option Text)) → (b ≡ true → w ≡ None) → unwrap_or w (cond b v o) ≡ unwrap_or (cond b (Some v) w) o
chosen_once true v o w h = ap (λ (x : Option (Option Text)). unwrap_or x v) (h refl)
chosen_once false v o w h = refl

lookup-applied : (cs : List NewValue) (e : Environment) (q : Text)
    → IsStrictlySortedBy (slice_cmp nat_cmp) (map (λ (c : NewValue). c.0) cs)
    → lookup (applied cs e) q ≡ unwrap_or (new_value_at cs q) (lookup e q)
unfolding IsStrictlySortedBy
lookup-applied [] e q o = refl
lookup-applied (c ∷ cs) e q o =
    lookup-applied cs (with_value e c.0 c.1) q o.1 ∙ ap (unwrap_or (new_value_at cs q)) (lookup-with_value e c.0 c.1 q)
    ∙ chosen_once (bytes_eq q c.0) c.1 (lookup e q) (new_value_at cs q) (later_names c.0 q cs o.0)

same_values : (x y : Option Text) → same_value x y ≡ true → x ≡ y
same_values None None h = refl
same_values None (Some y) h = cc
same_values (Some x) None h = cc
same_values (Some x) (Some y) h = ap Some (same_text x y h)

settled : (b : Bool) (x y : Option Text) → same_value x y ≡ b → unwrap_or (cond b None (Some y)) x ≡ y
settled true x y h = same_values x y h
settled false x y h = refl

pub applied-changes : (old new : Environment) (cs : List NewValue) → AreChanges old new cs → applied cs old ≡ new
applied-changes old new cs h = same_environment _ _ (λ q.
    lookup-applied cs old q h.ordered ∙ ap (λ (w : Option (Option Text)). unwrap_or w (lookup old q)) (h.each q)
    ∙ settled (same_value (lookup old q) (lookup new q)) (lookup old q) (lookup new q) refl)

-- changes made one after another

pub applied-push : (cs : List NewValue) (c : NewValue) (e : Environment) → applied (cs ++ c ∷ []) e ≡ with_value (applied cs e) c.0 c.1
applied-push [] c e = refl
applied-push (d ∷ cs) c e = applied-push cs c (with_value e d.0 d.1)

and_true : (a b : Bool) → (a && b) ≡ true → (a ≡ true) × (b ≡ true)
and_true true true h = (refl, refl)
and_true true false h = absurd (false≢true h)
and_true false b h = absurd (false≢true h)

not_true : (a : Bool) → not a ≡ true → a ≡ false
not_true true h = absurd (false≢true h)
not_true false h = refl

or_no : (a b : Bool) → (a || b) ≡ false → (a ≡ false) × (b ≡ false)
or_no true b h = absurd (false≢true (sym h))
or_no false b h = (refl, h)

-- the last name is apart from those before it
pub are_distinct-push : (xs : List Text) (x : Text) → are_distinct (xs ++ x ∷ []) ≡ true → (are_distinct xs ≡ true) × (has x xs ≡ false)
are_distinct-push [] x h = (refl, refl)
are_distinct-push (y ∷ ys) x h =
    let both = and_true (not (has y (ys ++ x ∷ []))) (are_distinct (ys ++ x ∷ [])) h in
    let rest = are_distinct-push ys x both.1 in
    let apart = or_no (bytes_eq y x) (has y ys) (sym (has-push ys x y) ∙ not_true (has y (ys ++ x ∷ [])) both.0) in
    (rw (apart.1) rest.0, rw (bytes_eq-symmetric x y, apart.0) rest.1)

-- a name that no change names can be written before them
pub applied-with_value : (cs : List NewValue) (e : Environment) (name : Text) (v : Option Text)
    → has name (map (λ (c : NewValue). c.0) cs) ≡ false
    → applied cs (with_value e name v) ≡ with_value (applied cs e) name v
applied-with_value [] e name v h = refl
applied-with_value (c ∷ cs) e name v h =
    let apart = or_no (bytes_eq name c.0) (has name (map (λ (d : NewValue). d.0) cs)) h in
    ap (applied cs) (with_value-commutes e name c.0 v c.1 apart.0) ∙ applied-with_value cs (with_value e c.0 c.1) name v apart.1

-- names sorted, each kept once

abbrev same_names : Bor Text → Bor Text → Bool
same_names x y = bytes_eq x.now y.now

abbrev by_bytes : Bor Text → Bor Text → Ordering
by_bytes x y = slice_cmp nat_cmp x.now y.now

absorb : (b h : Bool) → (b || h) ≡ (b || (b || h))
absorb true h = refl
absorb false h = refl

has-dedup_if : (k x : Bor Text) (q : Text) (ds es : List (Bor Text)) (h t : Bool) → same_names x k ≡ t
    → has q (slice_texts ds) ≡ (bytes_eq q k.now || h) → has q (slice_texts es) ≡ (bytes_eq q x.now || h)
    → has q (slice_texts (cond t ds (k ∷ es))) ≡ (bytes_eq q k.now || (bytes_eq q x.now || h))
has-dedup_if k x q ds es h true e d f =
    d ∙ absorb (bytes_eq q k.now) h ∙ ap (λ (y : Text). bytes_eq q k.now || (bytes_eq q y || h)) (sym (same_text x.now k.now e))
has-dedup_if k x q ds es h false e d f = ap (λ (b : Bool). bytes_eq q k.now || b) f

has-dedup_from : (k : Bor Text) (xs : List (Bor Text)) (q : Text) → has q (slice_texts (dedup_from same_names k xs)) ≡ (bytes_eq q k.now || has q (slice_texts xs))
has-dedup_from k [] q = refl
has-dedup_from k (x ∷ xs) q =
    has-dedup_if k x q (dedup_from same_names k xs) (dedup_from same_names x xs) (has q (slice_texts xs)) (same_names x k) refl (has-dedup_from k xs q) (has-dedup_from x xs q)

has-dedup : (xs : List (Bor Text)) (q : Text) → has q (slice_texts (dedup same_names xs)) ≡ has q (slice_texts xs)
has-dedup [] q = refl
has-dedup (x ∷ xs) q = has-dedup_from x xs q

all_shown : (x : Bor Text) (ks : List (Bor Text)) → AllByRecursion (λ (y : Bor Text). by_bytes x y ≡ Less) ks → AllByRecursion (λ (y : Text). slice_cmp nat_cmp x.now y ≡ Less) (slice_texts ks)
all_shown x [] h = h
all_shown x (k ∷ ks) h = (h.0, all_shown x ks h.1)

ordered_shown : (ks : List (Bor Text)) → IsStrictlySortedBy by_bytes ks → IsStrictlySortedBy (slice_cmp nat_cmp) (slice_texts ks)
unfolding IsStrictlySortedBy
ordered_shown [] h = h
ordered_shown (k ∷ ks) h = (all_shown k ks h.0, ordered_shown ks h.1)

bytes_total : IsTotalOrder by_bytes
bytes_total = on_total (λ (x : Bor Text). x.now) nat_list_cmp_total

pub deduplicated-ordered : (xs ys : List (Bor Text)) → IsFiltered (DiffersFromLast same_names) [] xs ys → IsSorted by_bytes xs → IsStrictlySortedBy (slice_cmp nat_cmp) (slice_texts ys)
deduplicated-ordered xs ys f s =
    ordered_shown ys (subst (IsStrictlySortedBy by_bytes) (sym (dedup_is same_names xs ys f)) (IsStrictlySortedBy-dedup bytes_total (λ x y. sym (is_eq-slice_cmp x.now y.now)) xs s))

pub deduplicated-same : (names xs ys : List (Bor Text)) (q : Text) → IsPermutation names xs → IsFiltered (DiffersFromLast same_names) [] xs ys → has q (slice_texts ys) ≡ has q (slice_texts names)
deduplicated-same names xs ys q p f =
    ap (λ (l : List (Bor Text)). has q (slice_texts l)) (dedup_is same_names xs ys f) ∙ has-dedup xs q
    ∙ sym (has-slice_texts q xs) ∙ sym (list_any-IsPermutation (λ y. bytes_eq y.now q) names xs p)
    ∙ has-slice_texts q names

-- of the names of which some may differ, those that do

abbrev differ : Environment → Environment → Text → Bool
differ old new n = not (same_value (lookup old n) (lookup new n))

abbrev change_to : Environment → Text → NewValue
change_to new n = (n, lookup new n)

names_listed : (new : Environment) (names : List Text) → map (λ (c : NewValue). c.0) (map (change_to new) names) ≡ names
names_listed new [] = refl
names_listed new (n ∷ ns) = ap (λ (l : List Text). n ∷ l) (names_listed new ns)

listed_at : (new : Environment) (n q : Text) (h b : Bool) → bytes_eq q n ≡ b → cond b (Some (lookup new n)) (cond h (Some (lookup new q)) None) ≡ cond (b || h) (Some (lookup new q)) None
listed_at new n q h true e = ap (λ (t : Text). Some (lookup new t)) (sym (same_text q n e))
listed_at new n q h false e = refl

new_value_at-listed : (new : Environment) (names : List Text) (q : Text) → new_value_at (map (change_to new) names) q ≡ cond (has q names) (Some (lookup new q)) None
new_value_at-listed new [] q = refl
new_value_at-listed new (n ∷ ns) q =
    ap (cond (bytes_eq q n) (Some (lookup new n))) (new_value_at-listed new ns q) ∙ listed_at new n q (has q ns) (bytes_eq q n) refl

pub same_as_itself : (o : Option Text) → same_value o o ≡ true
same_as_itself None = refl
same_as_itself (Some x) = bytes_eq-same x

-- the test of values decides whether they are one
pub same_value_is : (t : Bool) (x y : Option Text) → t ≡ same_value x y → (IsTrue t → x ≡ y) × (x ≡ y → IsTrue t)
same_value_is t x y h = (
  λ k. same_values x y (sym h ∙ k),
  λ e. h ∙ (ap (same_value x) (sym e) ∙ same_as_itself x),
)

difference_is : (h s : Bool) (y : Option Text) → (h ≡ false → s ≡ true) → cond (not s && h) (Some y) None ≡ (if s then None else Some y)
difference_is h true y e = refl
difference_is true false y e = refl
difference_is false false y e = absurd (false≢true (e refl))

has-filter : (p : Text → Bool) (q : Text) (xs : List Text) → has q (filter p xs) ≡ (p q && has q xs)
has-filter p q xs = any-filter_same (bytes_eq q) p (p q) (λ z e. ap p (sym (same_text q z e))) xs

pub AreChanges-among : (old new : Environment) (all names : List Text) → ((q : Text) → has q all ≡ false → lookup old q ≡ lookup new q)
    → IsStrictlySortedBy (slice_cmp nat_cmp) names → ((q : Text) → has q names ≡ has q (filter (differ old new) all)) → AreChanges old new (map (change_to new) names)
AreChanges-among old new all names k o h = record {
  ordered = subst (IsStrictlySortedBy (slice_cmp nat_cmp)) (sym (names_listed new names)) o;
  each = λ q. new_value_at-listed new names q
      ∙ ap (λ (b : Bool). cond b (Some (lookup new q)) None) (h q ∙ has-filter (differ old new) q all)
      ∙ difference_is (has q all) (same_value (lookup old q) (lookup new q)) (lookup new q)
      (λ e. ap (λ (x : Option Text). same_value x (lookup new q)) (k q e) ∙ same_as_itself (lookup new q));
}

pub all_changes : {E : Type 0} (r : Result (Vec Change Global) E) (old new : Environment) (all : List Text)
    (names slice : List (Bor Text)) → slice ≡ names → ((q : Text) → has q all ≡ false → lookup old q ≡ lookup new q)
    → IsStrictlySortedBy (slice_cmp nat_cmp) (slice_texts names) → ((q : Text) → has q (slice_texts names) ≡ has q (filter (differ old new) all))
    → IfOk r (λ v. new_values_in v ≡ map (change_to new) (slice_texts slice)) → IfOk r (λ v. AreChanges old new (new_values_in v))
all_changes (Ok v) old new all names slice s k o h e =
    subst (AreChanges old new) (sym (e ∙ ap (λ (l : List (Bor Text)). map (change_to new) (slice_texts l)) s)) (AreChanges-among old new all (slice_texts names) k o h)
all_changes (Err x) old new all names slice s k o h e = e

-- the names of an environment

-- what an environment has at these names
filled : Environment → List Text → Environment
filled e [] = finite.empty
filled e (n ∷ ns) = with_value (filled e ns) n (lookup e n)

filled_at : (e : Environment) (n q : Text) (h b : Bool) → bytes_eq q n ≡ b → cond b (lookup e n) (cond h (lookup e q) None) ≡ cond (b || h) (lookup e q) None
filled_at e n q h true k = ap (lookup e) (sym (same_text q n k))
filled_at e n q h false k = refl

lookup-filled : (e : Environment) (ns : List Text) (q : Text) → lookup (filled e ns) q ≡ cond (has q ns) (lookup e q) None
unfolding filled
lookup-filled e [] q = finite.get-empty (slice_cmp nat_cmp) q
lookup-filled e (n ∷ ns) q =
    lookup-with_value (filled e ns) n (lookup e n) q ∙ ap (cond (bytes_eq q n) (lookup e n)) (lookup-filled e ns q) ∙ filled_at e n q (has q ns) (bytes_eq q n) refl

all_filled : (h : Bool) (o : Option Text) → h ≡ is_some o → cond h o None ≡ o
all_filled true o e = refl
all_filled false None e = refl
all_filled false (Some x) e = absurd (false≢true e)

put_first : (x : Text × Text) (es : List (Text × Text))
    → AllByRecursion (λ (y : Text). slice_cmp nat_cmp x.0 y ≡ Less) (map (λ (p : Text × Text). p.0) es)
    → put (slice_cmp nat_cmp) x.0 x.1 es ≡ x ∷ es
put_first x [] h = refl
put_first x (f ∷ fs) h = rw h.0 refl

nothing : {X : Type 0} (xs : List X) → length xs ≡ 0 → xs ≡ []
nothing [] h = refl
nothing (x ∷ xs) h = absurd (omega arith)

one_more_key : (e : Environment) (n : Text) (o : Option Text) (ns : List Text) → is_some o ≡ true → finite.keys e ≡ ns → AllByRecursion (λ (y : Text). slice_cmp nat_cmp n y ≡ Less) ns
    → finite.keys (with_value e n o) ≡ n ∷ ns
one_more_key e n None ns s k a = absurd (false≢true s)
one_more_key e n (Some v) ns s k a =
    ap (map (λ (p : Text × Text). p.0)) (finite.entries-insert nat_list_cmp_total e n v ∙ put_first (n, v)
    (finite.entries e) (subst (AllByRecursion (λ (y : Text). slice_cmp nat_cmp n y ≡ Less)) (sym k) a))
    ∙ ap (λ (l : List Text). n ∷ l) k

keys-filled : (e : Environment) (ns : List Text) → IsStrictlySortedBy (slice_cmp nat_cmp) ns → ((q : Text) → has q ns ≡ true → is_some (lookup e q) ≡ true) → finite.keys (filled e ns) ≡ ns
unfolding filled IsStrictlySortedBy
keys-filled e [] o h = ap (map (λ (p : Text × Text). p.0)) (nothing (finite.entries (finite.empty)) (sym (finite.len-entries finite.empty) ∙ finite.len-empty (slice_cmp nat_cmp) Text))
keys-filled e (n ∷ ns) o h =
    one_more_key (filled e ns) n (lookup e n) ns (h n (ap (λ (b : Bool). b || has n ns) (bytes_eq-same n)))
    (keys-filled e ns o.1 (λ q k. h q (ap (λ (b : Bool). bytes_eq q n || b) k ∙ or_true (bytes_eq q n)))) o.0
  where
    or_true : (b : Bool) → (b || true) ≡ true
    or_true true = refl
    or_true false = refl

set_among : (s h : Bool) (o : Option Text) → s ≡ is_some o → (h ≡ false → o ≡ None) → (s && h) ≡ is_some o
set_among true true o e f = e
set_among true false o e f = absurd (false≢true (sym (e ∙ ap is_some (f refl))))
set_among false h o e f = e

-- the names that are set, in order, are those of the environment
pub keys-set : (e : Environment) (all names : List Text) → ((q : Text) → has q all ≡ false → lookup e q ≡ None) → IsStrictlySortedBy (slice_cmp nat_cmp) names
    → ((q : Text) → has q names ≡ has q (filter (λ n. is_some (lookup e n)) all)) → names ≡ finite.keys e
keys-set e all names k o h =
    let same : (q : Text) → has q names ≡ is_some (lookup e q) = λ q.
    h q ∙ has-filter (λ n. is_some (lookup e n)) q all ∙ set_among (is_some (lookup e q)) (has q all) (lookup e q) refl (k q) in
    sym (keys-filled e names o (λ q t. sym (same q) ∙ t))
    ∙ ap finite.keys (same_environment (filled e names) e (λ q. lookup-filled e names q ∙ all_filled (has q names) (lookup e q) (same q)))
