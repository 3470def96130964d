-- Two environments have a difference.
use Rattle.std.proofs.Common.{◌≡◌, Bool, true, false, cond, not, ◌||◌, List, [], ◌∷◌, ◌++◌, map, filter, Option, Some}
use Rattle.std.proofs.Common.{None, refl, sym, ap, ◌∙◌, is_some, T, Ordering, Less, Equal, Greater}
use Rattle.std.specs.Prelude.{bytes_eq}
use Rattle.std.specs.Ordering.{nat_cmp, is_lt, eq_by_cmp}
use Rattle.std.specs.Cmp.Lexicographic.{slice_cmp}
use Rattle.std.specs.FinMap as finite
use Rattle.std.specs.List.{AllByRecursion, list_any}
use Rattle.std.specs.List.Sorted.{IsStrictlySortedBy}
use Rattle.std.specs.FinMap.Entries.{below_all, is_sorted}
use Rattle.std.proofs.lemmas.Bool.{and_parts}
use Rattle.std.proofs.lemmas.Map.Text.{is_eq-slice_cmp}
use Rattle.envvars.specs.Texts.{Text, has}
use Rattle.envvars.specs.Environment.{Environment, lookup, with_value}
use Rattle.envvars.specs.Changes.{NewValue, AreChanges, same_value}
use Rattle.envvars.proofs.ChangeLemmas.{AreChanges-among}
use Rattle.envvars.proofs.EnvLemmas.{lookup-with_value}

less : (o : Ordering) → is_lt o ≡ true → o ≡ Less
less Less h = refl
less Equal h = absurd (cc)
less Greater h = absurd (cc)

is_true : (b : Bool) → T b → b ≡ true
is_true true h = refl
is_true false h = absurd h

below_keys : (x : Text) (es : List (Text × Text)) → below_all (slice_cmp nat_cmp) x es ≡ true
    → AllByRecursion (λ (y : Text). slice_cmp nat_cmp x y ≡ Less) (map (λ (p : Text × Text). p.0) es)
below_keys x [] h = tt
below_keys x (e ∷ es) h =
    let k = and_parts (is_lt (slice_cmp nat_cmp x e.0)) (below_all (slice_cmp nat_cmp) x es) h in
    (less (slice_cmp nat_cmp x e.0) k.0, below_keys x es k.1)

sorted_keys : (es : List (Text × Text)) → is_sorted (slice_cmp nat_cmp) es ≡ true
    → IsStrictlySortedBy (slice_cmp nat_cmp) (map (λ (p : Text × Text). p.0) es)
unfolding IsStrictlySortedBy
sorted_keys [] h = tt
sorted_keys (e ∷ es) h =
    let k = and_parts (below_all (slice_cmp nat_cmp) e.0 es) (is_sorted (slice_cmp nat_cmp) es) h in
    (below_keys e.0 es k.0, sorted_keys es k.1)

keys_ordered : (e : Environment) → IsStrictlySortedBy (slice_cmp nat_cmp) (finite.keys e)
keys_ordered e = sorted_keys (finite.entries e) (is_true (is_sorted (slice_cmp nat_cmp) (finite.entries e)) (finite.entries_sorted e))

any_same : (q : Text) (ks : List Text) → list_any (eq_by_cmp (slice_cmp nat_cmp) q) ks ≡ has q ks
any_same q [] = refl
any_same q (k ∷ ks) = rw (is_eq-slice_cmp q k, any_same q ks) refl

-- the names of an environment are those that are set
has_keys : (e : Environment) (q : Text) → has q (finite.keys e) ≡ is_some (lookup e q)
has_keys e q = sym (finite.contains_key-keys e q ∙ any_same q (finite.keys e))

-- an environment in which these names are set
marked : List Text → Environment
marked [] = finite.empty
marked (n ∷ ns) = with_value (marked ns) n (Some [])

-- the value of each of them
abbrev mark : Option Text
mark = Some []

marked_once : (b h : Bool) → cond b mark (cond h mark None) ≡ cond (b || h) mark None
marked_once true h = refl
marked_once false h = refl

lookup_marked : (ns : List Text) (q : Text) → lookup (marked ns) q ≡ cond (has q ns) mark None
unfolding marked
lookup_marked [] q = finite.get-empty (slice_cmp nat_cmp) q
lookup_marked (n ∷ ns) q =
    lookup-with_value (marked ns) n mark q
    ∙ (ap (cond (bytes_eq q n) mark) (lookup_marked ns q) ∙ marked_once (bytes_eq q n) (has q ns))

some_where : (h : Bool) → is_some (cond h mark None) ≡ h
some_where true = refl
some_where false = refl

has_marked : (ns : List Text) (q : Text) → has q (finite.keys (marked ns)) ≡ has q ns
has_marked ns q = has_keys (marked ns) q ∙ (ap is_some (lookup_marked ns q) ∙ some_where (has q ns))

or_no : (b h : Bool) → (b || h) ≡ false → (b ≡ false) × (h ≡ false)
or_no true h e = absurd (cc)
or_no false h e = (refl, e)

or_none : (b h : Bool) → b ≡ false → h ≡ false → (b || h) ≡ false
or_none b h p q = rw (p, q) refl

neither : (q : Text) (xs ys : List Text) → has q (xs ++ ys) ≡ false → (has q xs ≡ false) × (has q ys ≡ false)
neither q [] ys h = (refl, h)
neither q (x ∷ xs) ys h =
    let k = or_no (bytes_eq q x) (has q (xs ++ ys)) h in
    let rest = neither q xs ys k.1 in
    (or_none (bytes_eq q x) (has q xs) k.0 rest.0, rest.1)

unset : (o : Option Text) → is_some o ≡ false → o ≡ None
unset None h = refl
unset (Some x) h = absurd (cc)

module _ (old new : Environment) where
  abbrev differs : Text → Bool
  differs n = not (same_value (lookup old n) (lookup new n))

  abbrev all : List Text
  all = finite.keys old ++ finite.keys new

  elsewhere : (q : Text) → has q all ≡ false → lookup old q ≡ lookup new q
  elsewhere q h =
      let k = neither q (finite.keys old) (finite.keys new) h in
      unset (lookup old q) (sym (has_keys old q) ∙ k.0) ∙ sym (unset (lookup new q) (sym (has_keys new q) ∙ k.1))

  pub some_difference : (cs : List NewValue) × AreChanges old new cs
  some_difference =
      let marks = marked (filter differs all) in (
        map (λ (n : Text). (n, lookup new n)) (finite.keys marks),
        AreChanges-among old new all (finite.keys marks) elsewhere (keys_ordered marks) (has_marked (filter differs all)),
      )
