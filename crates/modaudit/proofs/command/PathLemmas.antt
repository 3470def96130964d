-- Paths of a list and of a set.
use Rattle.std.proofs.Common.{◌≡◌, ℕ, ◌+◌, ◌<◌, ◌≤◌, Bool, true, false, ◌||◌, cond, List, [], ◌∷◌, ◌++◌, length, get_or, map, take, refl, sym, ap, ◌∙◌}
use Rattle.std.proofs.Common.{bytes_eq, string_bytes, String, Global}
use Rattle.std.proofs.lemmas.List.{take_more, take_all, map-append}
use Rattle.std.proofs.lemmas.List.Folds.{list_any-append}
use Rattle.std.proofs.lemmas.Map.Text.{is_eq-slice_cmp}
use Rattle.std.proofs.lemmas.Slice.Eq.{bytes_eq-Decides}
use Rattle.std.specs.BTreeSet.{BTreeSet, contains_text}
use Rattle.std.specs.Cmp.Lexicographic.{slice_cmp}
use Rattle.std.specs.Ordering.{nat_cmp, is_eq}
use Rattle.std.specs.List.{list_any, AllByRecursion}
use Rattle.std.specs.List.Sorted.{IsStrictlySortedBy}
use Rattle.std.specs.String.{string_cmp}
use Rattle.std.specs.declared.cmp.Ordering.TheVariants.{Less}
use Rattle.std.specs.Prelude.{IfOk, Result, Ok, Err}
use Rattle.envvars.specs.Texts.{Text}
use Rattle.filetree.specs.hiding.Hidden.{is_among}

symmetric_by : (a b : Text) (x y : Bool) → bytes_eq a b ≡ x → bytes_eq b a ≡ y → x ≡ y
symmetric_by a b true true e f = refl
symmetric_by a b false false e f = refl
symmetric_by a b true false e f = sym ((bytes_eq-Decides b a).1 (sym ((bytes_eq-Decides a b).0 e))) ∙ f
symmetric_by a b false true e f = sym e ∙ (bytes_eq-Decides a b).1 (sym ((bytes_eq-Decides b a).0 f))

symmetric : (a b : Text) → bytes_eq a b ≡ bytes_eq b a
symmetric a b = symmetric_by a b (bytes_eq a b) (bytes_eq b a) refl refl

or_nothing : (b : Bool) → (b || false) ≡ b
or_nothing true = refl
or_nothing false = refl

or_after : (b c : Bool) → cond b true c ≡ (c || b)
or_after true true = refl
or_after true false = refl
or_after false true = refl
or_after false false = refl

-- the set has the path that was put there
pub put_one : (new old : BTreeSet (String Global)) (own path q : Text) → own ≡ path → contains_text new q ≡ cond (bytes_eq own q) true (contains_text old q)
    → contains_text new q ≡ (contains_text old q || bytes_eq q path)
put_one new old own path q same h = h ∙ (or_after (bytes_eq own q) (contains_text old q) ∙ ap (λ b. contains_text old q || b) (symmetric own q ∙ ap (bytes_eq q) same))

among_more : (paths : List Text) (path q : Text) → is_among (paths ++ path ∷ []) q ≡ (is_among paths q || bytes_eq q path)
among_more paths path q = list_any-append (bytes_eq q) paths (path ∷ []) ∙ ap (λ b. is_among paths q || b) (or_nothing (bytes_eq q path))

-- the paths so far, and one more
pub among_taken : (xs : List (String Global)) (i : ℕ) (x : String Global) (q : Text) → i < length xs → x ≡ get_or xs i x
    → is_among (map (λ (s : String Global). string_bytes s) (take (i + 1) xs)) q ≡ (is_among (map (λ (s : String Global). string_bytes s) (take i xs)) q || bytes_eq q (string_bytes x))
among_taken xs i x q l e =
    ap (λ (ps : List Text). is_among ps q)
    (ap (map (λ (s : String Global). string_bytes s)) (take_more xs i x l ∙ ap (λ (y : String Global). take i xs ++ y ∷ []) (sym e))
    ∙ map-append (λ (s : String Global). string_bytes s) (take i xs) (x ∷ []))
    ∙ among_more (map (λ (s : String Global). string_bytes s) (take i xs)) (string_bytes x) q

-- the keys of a set are what it has
pub among_keys : (q : Text) (ks : List (String Global)) → is_among (map (λ (s : String Global). string_bytes s) ks) q ≡ list_any (λ k. is_eq (slice_cmp nat_cmp q (string_bytes k))) ks
among_keys q [] = refl
among_keys q (k ∷ ks) = ap (λ b. b || is_among (map (λ (s : String Global). string_bytes s) ks) q) (sym (is_eq-slice_cmp q (string_bytes k)))
    ∙ ap (λ b. is_eq (slice_cmp nat_cmp q (string_bytes k)) || b) (among_keys q ks)

-- what follows on a value
pub if_ok_so : {X E : Type 0} (r : Result X E) (P Q : X → Type 0) → ((x : X) → P x → Q x) → IfOk r P → IfOk r Q
if_ok_so (Ok x) P Q f h = f x h
if_ok_so (Err e) P Q f h = tt

-- the keys of a set have the paths that were put there
pub keys_have : (found : BTreeSet (String Global)) (ks xs : List (String Global)) (i : ℕ) (q : Text) → length xs ≤ i → ks ≡ found.keys
    → contains_text found q ≡ is_among (map (λ (s : String Global). string_bytes s) (take i xs)) q
    → is_among (map (λ (s : String Global). string_bytes s) ks) q ≡ is_among (map (λ (s : String Global). string_bytes s) xs) q
keys_have found ks xs i q l e h =
    ap (λ (l : List (String Global)). is_among (map (λ (s : String Global). string_bytes s) l) q) e ∙ (among_keys q found.keys
    ∙ (h ∙ ap (λ (l : List (String Global)). is_among (map (λ (s : String Global). string_bytes s) l) q) (take_all i xs l)))

pub sorted_bytes : (ks : List (String Global)) → IsStrictlySortedBy string_cmp ks → IsStrictlySortedBy (slice_cmp nat_cmp) (map (λ (s : String Global). string_bytes s) ks)
unfolding IsStrictlySortedBy
sorted_bytes [] h = h
sorted_bytes (k ∷ ks) h = (below ks h.0, sorted_bytes ks h.1)
  where
    below : (xs : List (String Global)) → AllByRecursion (λ y. string_cmp k y ≡ Less) xs → AllByRecursion (λ y. slice_cmp nat_cmp (string_bytes k) y ≡ Less) (map (λ (s : String Global). string_bytes s) xs)
    below [] a = a
    below (x ∷ xs) a = (a.0, below xs a.1)
