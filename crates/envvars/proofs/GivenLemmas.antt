-- The chains in which the entry of a name is found, and the environment that entries are written over.
use Rattle.std.proofs.Common.{◌≡◌, ℕ, zero, suc, ◌+◌, ◌<◌, ◌≤◌, ◌≢◌, Bool, true, false, cond, ◌||◌, inl, inr, ◌⊎◌, List}
use Rattle.std.proofs.Common.{[], ◌∷◌, ◌++◌, length, map, replicate, get_or, take, set, slice_get, Bor, Option, Some}
use Rattle.std.proofs.Common.{None, IfSome, refl, sym, ap, ◌∙◌, append_assoc, subst, arith, length-append, length-set}
use Rattle.std.proofs.Common.{take-suc}
use Rattle.std.specs.Prelude.{bytes_eq}
use Rattle.std.proofs.lemmas.Bool.{cases_Bool, false≢true}
use Rattle.std.proofs.lemmas.Bool.Decides.{leb_tells}
use Rattle.std.proofs.lemmas.List.{map-append}
use Rattle.std.proofs.lemmas.Option.{slice_get_within}
use Rattle.std.specs.FinMap as finite
use Rattle.envvars.specs.Texts.{Text, has, slice_texts}
use Rattle.envvars.specs.Environment.{Environment, lookup, with_value}
use Rattle.envvars.specs.Given.{IsNamed, IsInChain, IsLastBelow, IsFirstOf, IsInside, AreChained, name_in, value_in}
use Rattle.envvars.specs.Given.{given_over, chain_of}
use Rattle.envvars.specs.declared.given.Entry.{Entry}
use Rattle.envvars.proofs.TextLemmas.{bytes_eq-same, same_text}
use Rattle.envvars.proofs.TableLemmas.{nothing_set}
use Rattle.envvars.proofs.EnvLemmas.{same_environment, lookup-with_value, lookup-set, with_value-commutes}

-- one number is below another, or the same, or above it
pub order : (a b : ℕ) → (a < b) ⊎ ((a ≡ b) ⊎ (b < a))
order a b = elim (leb_tells a b) [
  | inl l ↦ elim (leb_tells b a) [ inl m ↦ inr (inl (omega (arith, l.1, m.1))) | inr m ↦ inl m.1 ]
  | inr l ↦ inr (inr l.1)
]

-- the index is above another, where there is one
abbrev pub IsAbove : Option ℕ → ℕ → Type 0
IsAbove None j = Unit {0}
IsAbove (Some i) j = i < j

-- of the indexes above `at`, the first that has a property, or none
abbrev pub IsFirstAbove : (ℕ → Type 0) → Option ℕ → Option ℕ → Type 0
IsFirstAbove P at None = (j : ℕ) → IsAbove at j → ¬ P j
IsFirstAbove P at (Some f) = P f × IsAbove at f × ((j : ℕ) → IsAbove at j → j < f → ¬ P j)

pub some_same : {A : Type 0} (x y : A) → Some x ≡ Some y → x ≡ y
some_same x y e = cc

pub none_some : {A : Type 0} {x : A} → None ≡ Some x → ⊥
none_some e = cc

-- texts that differ
pub apart : (x y : Text) → bytes_eq x y ≡ false → x ≡ y → ⊥
apart x y f e = false≢true (sym f ∙ ap (λ (t : Text). bytes_eq t y) e ∙ bytes_eq-same y)

-- how many indexes may still be met
abbrev pub left : Option ℕ → ℕ
left None = 0
left (Some i) = i + 1

-- going down the chain of a name
module _ (count : ℕ) (block : Text) (es : List Entry) (name : Text) where
  abbrev Named : ℕ → Type 0
  Named = IsNamed block es name

  abbrev InChain : ℕ → Type 0
  InChain = IsInChain count block es (chain_of count name)

  in_chain : (j : ℕ) → Named j → InChain j
  in_chain j p = (p.0, p.1, ap (chain_of count) p.2)

  pub chain_begins : (at : Option ℕ) → IsLastBelow InChain (length es) at → IsFirstAbove Named at None
  chain_begins None h = λ j above p. h j (slice_get_within es j p.0 p.1) (in_chain j p)
  chain_begins (Some i) h = λ j above p. h.2 j above (slice_get_within es j p.0 p.1) (in_chain j p)

  passed : (i : ℕ) (earlier : Option ℕ) → IsLastBelow InChain i earlier → (j : ℕ) → IsAbove earlier j → j < i → ¬ Named j
  passed i None h = λ j above l p. h j l (in_chain j p)
  passed i (Some k) h = λ j above l p. h.2 j above l (in_chain j p)

  below : (i : ℕ) (earlier : Option ℕ) (j : ℕ) → IsLastBelow InChain i earlier → i ≤ j → IsAbove earlier j
  below i None j h l = tt
  below i (Some k) j h l = omega (arith, h.0, l)

  pub chain_met : (i : ℕ) (earlier : Option ℕ) → Named i → IsLastBelow InChain i earlier → IsFirstAbove Named earlier (Some i)
  chain_met i earlier p h = (p, below i earlier i h (omega arith), passed i earlier h)

  not_here : (i : ℕ) (earlier : Option ℕ) → ¬ Named i → IsLastBelow InChain i earlier → (j : ℕ) → IsAbove earlier j → ((i < j) → ¬ Named j) → ¬ Named j
  not_here i earlier n h j above f = elim (order j i) [
    | inl l ↦ passed i earlier h j above l
    | inr m ↦ elim m [ inl s ↦ subst (λ (k : ℕ). ¬ Named k) (sym s) n | inr g ↦ f g ]
  ]

  pub chain_passed : (i : ℕ) (earlier found : Option ℕ) → ¬ Named i → IsLastBelow InChain i earlier → IsFirstAbove Named (Some i) found → IsFirstAbove Named earlier found
  chain_passed i earlier None n h f = λ j above. not_here i earlier n h j above (f j)
  chain_passed i earlier (Some g) n h f = (f.0, below i earlier g h (omega (arith, f.1)), λ j above l. not_here i earlier n h j above (λ m. f.2 j m l))

  pub chain_ends : (found : Option ℕ) → IsFirstAbove Named None found → IsFirstOf Named found
  chain_ends None f = λ j. f j tt
  chain_ends (Some g) f = (f.0, λ j l. f.2 j tt l)

  -- the entry of an index has the name that the index has
  pub name_at : (i : ℕ) (e : Entry) → slice_get es i ≡ Some e → Named i → name_in block e ≡ name
  name_at i e get p = ap (name_in block) (some_same e p.0 (sym get ∙ p.1)) ∙ p.2

  -- an entry of another name
  pub other_name : (i : ℕ) (e : Entry) → slice_get es i ≡ Some e → (name_in block e ≡ name → ⊥) → ¬ Named i
  other_name i e get n p = n (name_at i e get p)

  -- the chain that an entry is in is the name's
  pub chain_leads : (i : ℕ) (e : Entry) (earlier : Option ℕ) → slice_get es i ≡ Some e → InChain i
      → IsLastBelow (IsInChain count block es (chain_of count (name_in block e))) i earlier
      → IsLastBelow InChain i earlier
  chain_leads i e earlier get p h =
      let same : p.0 ≡ e = some_same p.0 e (sym p.1 ∙ get) in
      subst (λ (n : ℕ). IsLastBelow (IsInChain count block es n) i earlier) (ap (λ (x : Entry). chain_of count (name_in block x)) (sym same) ∙ p.2) h

  -- the entry before it is in the chain, if there is one
  pub chain_kept : (i : ℕ) (earlier : Option ℕ) → IsLastBelow InChain i earlier → IfSome earlier InChain
  chain_kept i None h = tt
  chain_kept i (Some k) h = h.1

  pub chain_falls : (i : ℕ) (earlier at : Option ℕ) → at ≡ Some i → IsLastBelow InChain i earlier → left earlier < left at
  chain_falls i earlier at is h = subst (λ (o : Option ℕ). left earlier < left o) (sym is) (falls earlier h)
    where
      falls : (o : Option ℕ) → IsLastBelow InChain i o → left o < i + 1
      falls None h = omega arith
      falls (Some k) h = omega (arith, h.0)

-- the environment that entries are written over
module _ (block : Text) where
  not_at : (e : Environment) (x : Entry) (q : Text) → (name_in block x ≡ q → ⊥) → lookup (with_value e (name_in block x) (value_in block x)) q ≡ lookup e q
  not_at e x q n = lookup-with_value e (name_in block x) (value_in block x) q ∙ elim (cases_Bool (bytes_eq q (name_in block x))) [
    | inl t ↦ absurd (n (sym (same_text q (name_in block x) t)))
    | inr f ↦ ap (λ (b : Bool). cond b (value_in block x) (lookup e q)) f
  ]

  -- a name that no entry has
  pub lookup-not_given : (base : Environment) (es : List Entry) (q : Text) → ((j : ℕ) → ¬ IsNamed block es q j) → lookup (given_over block base es) q ≡ lookup base q
  lookup-not_given base [] q n = refl
  lookup-not_given base (x ∷ xs) q n = not_at (given_over block base xs) x q (λ is. n 0 (x, refl, is)) ∙ lookup-not_given base xs q (λ j. n (suc j))

  -- a name has the value of its first entry
  pub lookup-given : (base : Environment) (es : List Entry) (q : Text) (i : ℕ) (e : Entry) → slice_get es i ≡ Some e
      → name_in block e ≡ q → ((j : ℕ) → j < i → ¬ IsNamed block es q j)
      → lookup (given_over block base es) q ≡ value_in block e
  lookup-given base [] q i e get is n = absurd (none_some get)
  lookup-given base (x ∷ xs) q zero e get is n =
      let same : x ≡ e = some_same x e get in
      ap (λ (t : Text). lookup (with_value (given_over block base xs) (name_in block x) (value_in block x)) t) (sym is ∙ ap (name_in block) (sym same))
      ∙ lookup-set (given_over block base xs) (name_in block x) (value_in block x) ∙ ap (value_in block) same
  lookup-given base (x ∷ xs) q (suc i) e get is n =
      not_at (given_over block base xs) x q (λ at. n 0 (omega arith) (x, refl, at)) ∙ lookup-given base xs q i e get is (λ j l. n (suc j) (omega (arith, l)))

  -- one more entry stands below all others
  pub given_over-push : (base : Environment) (es : List Entry) (e : Entry) → given_over block base (es ++ e ∷ []) ≡ given_over block (with_value base (name_in block e) (value_in block e)) es
  given_over-push base [] e = refl
  given_over-push base (x ∷ xs) e = ap (λ (d : Environment). with_value d (name_in block x) (value_in block x)) (given_over-push base xs e)

pub not_given : (block : Text) (es : List Entry) (q : Text) → ((j : ℕ) → ¬ IsNamed block es q j) → None ≡ lookup (given_over block finite.empty es) q
not_given block es q n = sym (lookup-not_given block finite.empty es q n ∙ nothing_set q)

-- lists with one more element, or with one that was replaced
get_push : {A : Type 0} (xs : List A) (x : A) (j : ℕ) (y : A) → slice_get (xs ++ x ∷ []) j ≡ Some y → (slice_get xs j ≡ Some y) ⊎ ((j ≡ length xs) × (x ≡ y))
get_push [] x zero y h = inr (refl, some_same x y h)
get_push [] x (suc j) y h = absurd (none_some h)
get_push (z ∷ zs) x zero y h = inl h
get_push (z ∷ zs) x (suc j) y h = elim (get_push zs x j y h) [ inl k ↦ inl k | inr k ↦ inr (ap suc k.0, k.1) ]

get_kept : {A : Type 0} (xs : List A) (x : A) (j : ℕ) (y : A) → slice_get xs j ≡ Some y → slice_get (xs ++ x ∷ []) j ≡ Some y
get_kept [] x j y h = absurd (none_some h)
get_kept (z ∷ zs) x zero y h = h
get_kept (z ∷ zs) x (suc j) y h = get_kept zs x j y h

get_last : {A : Type 0} (xs : List A) (x : A) → slice_get (xs ++ x ∷ []) (length xs) ≡ Some x
get_last [] x = refl
get_last (z ∷ zs) x = get_last zs x

get_set : {A : Type 0} (xs : List A) (i : ℕ) (x : A) (j : ℕ) (y : A) → slice_get (set xs i x) j ≡ Some y → ((j ≢ i) × (slice_get xs j ≡ Some y)) ⊎ ((j ≡ i) × (x ≡ y))
get_set [] i x j y h = absurd (none_some h)
get_set (z ∷ zs) zero x zero y h = inr (refl, some_same x y h)
get_set (z ∷ zs) zero x (suc j) y h = inl (λ e. omega (arith, e), h)
get_set (z ∷ zs) (suc i) x zero y h = inl (λ e. omega (arith, e), h)
get_set (z ∷ zs) (suc i) x (suc j) y h = elim (get_set zs i x j y h) [ inl k ↦ inl (λ e. k.0 (omega (arith, e)), k.1) | inr k ↦ inr (ap suc k.0, k.1) ]

-- the last index of a property stays the last of one that holds at the same places
last_same : (P Q : ℕ → Type 0) (n m : ℕ) (o : Option ℕ) → n ≤ m → ((j : ℕ) → P j → Q j) → ((j : ℕ) → j < m → Q j → (j < n) × P j) → IsLastBelow P n o → IsLastBelow Q m o
last_same P Q n m None le to from h = λ j l q. let r = from j l q in h j r.0 r.1
last_same P Q n m (Some i) le to from h = (omega (arith, h.0, le), to i h.1, λ j a l q. let r = from j l q in h.2 j a r.0 r.1)

-- one more entry in its chain
module _ (count : ℕ) (block : Text) (es : List Entry) (e : Entry) (latest : List (Option ℕ))
    (all : AreChained count block es latest) (at : ℕ) (is_at : at ≡ chain_of count (name_in block e))
    (begun : slice_get latest at ≡ Some e.earlier) (chains : 0 < count) where
  more : (chain j : ℕ) → IsInChain count block es chain j → IsInChain count block (es ++ e ∷ []) chain j
  more chain j p = (p.0, get_kept es e j p.0 p.1, p.2)

  fewer : (chain j : ℕ) → j < length es → IsInChain count block (es ++ e ∷ []) chain j → IsInChain count block es chain j
  fewer chain j l p = elim (get_push es e j p.0 p.1) [ inl k ↦ (p.0, k, p.2) | inr k ↦ absurd (omega (arith, k.0, l)) ]

  not_last : (chain j : ℕ) → chain ≢ at → j < length es + 1 → IsInChain count block (es ++ e ∷ []) chain j → (j < length es) × IsInChain count block es chain j
  not_last chain j other l p = elim (get_push es e j p.0 p.1) [
    | inl k ↦ (slice_get_within es j p.0 k, (p.0, k, p.2))
    | inr k ↦ absurd (other (sym p.2 ∙ ap (λ (x : Entry). chain_of count (name_in block x)) (sym k.1) ∙ sym is_at))
  ]

  size : length (es ++ e ∷ []) ≡ length es + 1
  size = length-append es (e ∷ [])

  here : IsLastBelow (IsInChain count block (es ++ e ∷ []) at) (length (es ++ e ∷ [])) (Some (length es))
  here = (omega (arith, size), (e, get_last es e, sym is_at), λ j a l q. absurd (omega (arith, a, l, size)))

  began : (chain : ℕ) (i : Option ℕ) → slice_get (set latest at (Some (length es))) chain ≡ Some i → IsLastBelow (IsInChain count block (es ++ e ∷ []) chain) (length (es ++ e ∷ [])) i
  began chain i get = elim (get_set latest at (Some (length es)) chain i get) [
    | inl k ↦ last_same (IsInChain count block es chain) (IsInChain count block (es ++ e ∷ []) chain) (length es) (length (es ++ e ∷ [])) i (omega (arith, size)) (more chain)
        (λ j l q. not_last chain j k.0 (omega (arith, l, size)) q) (all.begins chain i k.1)
    | inr k ↦ subst (λ (n : ℕ). IsLastBelow (IsInChain count block (es ++ e ∷ []) n) (length (es ++ e ∷ [])) i)
        (sym k.0) (subst (λ (o : Option ℕ). IsLastBelow (IsInChain count block (es ++ e ∷ []) at)
        (length (es ++ e ∷ [])) o) k.1 here)
  ]

  led : (i : ℕ) (d : Entry) → slice_get (es ++ e ∷ []) i ≡ Some d → IsLastBelow (IsInChain count block (es ++ e ∷ []) (chain_of count (name_in block d))) i d.earlier
  led i d get = elim (get_push es e i d get) [
    | inl k ↦
        let chain = chain_of count (name_in block d) in
        let inside : i < length es = slice_get_within es i d k in
        last_same (IsInChain count block es chain) (IsInChain count block (es ++ e ∷ []) chain) i i d.earlier
        (omega arith) (more chain) (λ j l q. (l, fewer chain j (omega (arith, l, inside)) q)) (all.leads i d k)
    | inr k ↦
        let of_last : IsLastBelow (IsInChain count block (es ++ e ∷ []) (chain_of count (name_in block e))) (length es) e.earlier =
        subst (λ (n : ℕ). IsLastBelow (IsInChain count block (es ++ e ∷ []) n) (length es) e.earlier) is_at
        (last_same (IsInChain count block es at) (IsInChain count block (es ++ e ∷ []) at) (length es) (length es)
        e.earlier (omega arith) (more at) (λ j l q. (l, fewer at j l q)) (all.begins at e.earlier begun)) in
        subst (λ (n : ℕ). IsLastBelow (IsInChain count block (es ++ e ∷ []) (chain_of count (name_in block d))) n d.earlier) (sym k.0)
        (subst (λ (x : Entry). IsLastBelow (IsInChain count block (es ++ e ∷ []) (chain_of count (name_in block x))) (length es) x.earlier) k.1 of_last)
  ]

  pub chained-push : IsInside block e → AreChained count block (es ++ e ∷ []) (set latest at (Some (length es)))
  chained-push inside = record {
    inside = λ i d get. elim (get_push es e i d get) [ inl k ↦ all.inside i d k | inr k ↦ subst (IsInside block) k.1 inside ];
    chains = λ _. chains;
    begins = began;
    leads = led;
  }

pub chained-pushed : (block : Text) (es ns : List Entry) (e : Entry) (latest : List (Option ℕ)) (at n : ℕ)
    → AreChained (length latest) block es latest → at ≡ chain_of (length latest) (name_in block e)
    → slice_get latest at ≡ Some e.earlier → 0 < length latest → ns ≡ es ++ e ∷ [] → n ≡ length es → IsInside block e → AreChained (length (set latest at (Some n))) block ns (set latest at (Some n))
chained-pushed block es ns e latest at n all is_at begun chains grown last inside =
    let pushed : AreChained (length latest) block ns (set latest at (Some n)) = rw (grown, last) (chained-push (length latest) block es e latest all at is_at begun chains inside) in
    subst (λ (m : ℕ). AreChained m block ns (set latest at (Some n))) (sym (length-set latest at (Some n))) pushed

pub given_over-pushed : (block : Text) (base : Environment) (es ns : List Entry) (e : Entry) → ns ≡ es ++ e ∷ []
    → given_over block base ns ≡ given_over block (with_value base (name_in block e) (value_in block e)) es
given_over-pushed block base es ns e grown = ap (given_over block base) grown ∙ given_over-push block base es e

get_set_same : {A : Type 0} (xs : List A) (i : ℕ) (x y : A) → slice_get xs i ≡ Some y → slice_get (set xs i x) i ≡ Some x
get_set_same [] i x y h = absurd (none_some h)
get_set_same (z ∷ zs) zero x y h = refl
get_set_same (z ∷ zs) (suc i) x y h = get_set_same zs i x y h

get_set_other : {A : Type 0} (xs : List A) (i : ℕ) (x : A) (j : ℕ) (y : A) → j ≢ i → slice_get xs j ≡ Some y → slice_get (set xs i x) j ≡ Some y
get_set_other [] i x j y n h = absurd (none_some h)
get_set_other (z ∷ zs) zero x zero y n h = absurd (n refl)
get_set_other (z ∷ zs) zero x (suc j) y n h = h
get_set_other (z ∷ zs) (suc i) x zero y n h = h
get_set_other (z ∷ zs) (suc i) x (suc j) y n h = get_set_other zs i x j y (λ e. n (ap suc e)) h

-- an entry that is unset stays in its chain
abbrev pub unset : Entry → Entry
unset e = record { start = e.start; equals = e.equals; end = e.end; is_set = false; earlier = e.earlier }

module _ (count : ℕ) (block : Text) (es : List Entry) (latest : List (Option ℕ)) (i : ℕ) (e : Entry) (get : slice_get es i ≡ Some e) where
  still : (chain j : ℕ) → IsInChain count block es chain j → IsInChain count block (set es i (unset e)) chain j
  still chain j p = elim (order j i) [
    | inl l ↦ (p.0, get_set_other es i (unset e) j p.0 (λ s. omega (arith, l, s)) p.1, p.2)
    | inr m ↦ elim m [
      | inl s ↦
          let same : p.0 ≡ e = some_same p.0 e (sym p.1 ∙ ap (slice_get es) s ∙ get) in
          (unset e, ap (slice_get (set es i (unset e))) s ∙ get_set_same es i (unset e) e get, ap (λ (x : Entry). chain_of count (name_in block x)) (sym same) ∙ p.2)
      | inr l ↦ (p.0, get_set_other es i (unset e) j p.0 (λ s. omega (arith, l, s)) p.1, p.2)
    ]
  ]

  before : (chain j : ℕ) → IsInChain count block (set es i (unset e)) chain j → IsInChain count block es chain j
  before chain j p = elim (get_set es i (unset e) j p.0 p.1) [
    | inl k ↦ (p.0, k.1, p.2)
    | inr k ↦ (e, ap (slice_get es) k.0 ∙ get, ap (λ (x : Entry). chain_of count (name_in block x)) k.1 ∙ p.2)
  ]

  pub chained-unset : AreChained count block es latest → AreChained count block (set es i (unset e)) latest
  chained-unset all = record {
    inside = λ j d at. elim (get_set es i (unset e) j d at) [
      | inl k ↦ all.inside j d k.1
      | inr k ↦
          let inside = all.inside i e get in
          subst (IsInside block) k.1 (record { named = inside.named; valued = inside.valued; within = inside.within; utf8 = inside.utf8 })
    ];
    chains = λ l. all.chains (omega (arith, l, length-set es i (unset e)));
    begins = λ chain o at. last_same (IsInChain count block es chain) (IsInChain count block (set es i (unset e)) chain)
        (length es) (length (set es i (unset e))) o (omega (arith, length-set es i (unset e)))
        (still chain) (λ j l q. (omega (arith, l, length-set es i (unset e)), before chain j q)) (all.begins chain o at);
    leads = λ j d at. elim (get_set es i (unset e) j d at) [
      | inl k ↦ last_same (IsInChain count block es (chain_of count (name_in block d))) (IsInChain count block (set es i (unset e)) (chain_of count (name_in block d))) j j d.earlier (omega arith)
          (still (chain_of count (name_in block d))) (λ m l q. (l, before (chain_of count (name_in block d)) m q)) (all.leads j d k.1)
      | inr k ↦ subst (λ (x : Entry). IsLastBelow (IsInChain count block (set es i (unset e)) (chain_of count (name_in block x))) j x.earlier) k.1
          (subst (λ (n : ℕ). IsLastBelow (IsInChain count block (set es i (unset e)) (chain_of count (name_in block e))) n e.earlier) (sym k.0)
          (last_same (IsInChain count block es (chain_of count (name_in block e))) (IsInChain count block (set es i (unset e)) (chain_of count (name_in block e))) i i e.earlier (omega arith)
          (still (chain_of count (name_in block e))) (λ m l q. (l, before (chain_of count (name_in block e)) m q)) (all.leads i e get)))
    ];
  }

over_again : (b : Bool) (v w o : Option Text) → cond b w (cond b v o) ≡ cond b w o
over_again true v w o = refl
over_again false v w o = refl

-- a variable that is written twice
overwritten : (d : Environment) (name : Text) (v w : Option Text) → with_value (with_value d name v) name w ≡ with_value d name w
overwritten d name v w = same_environment _ _ (λ q.
    lookup-with_value (with_value d name v) name w q ∙ ap (cond (bytes_eq q name) w) (lookup-with_value d name v q)
    ∙ over_again (bytes_eq q name) v w (lookup d q) ∙ sym (lookup-with_value d name w q))

differ : (x y : Text) → (x ≡ y → ⊥) → bytes_eq x y ≡ false
differ x y n = elim (cases_Bool (bytes_eq x y)) [ inl t ↦ absurd (n (same_text x y t)) | inr f ↦ f ]

-- the first entry of a name is unset
pub given_over-unset : (block : Text) (base : Environment) (es : List Entry) (q : Text) (i : ℕ) (e : Entry) → slice_get es i ≡ Some e → name_in block e ≡ q → ((j : ℕ) → j < i → ¬ IsNamed block es q j)
    → given_over block base (set es i (unset e)) ≡ with_value (given_over block base es) q None
given_over-unset block base [] q i e get is n = absurd (none_some get)
given_over-unset block base (x ∷ xs) q zero e get is n =
    let same : x ≡ e = some_same x e get in
    ap (λ (t : Text). with_value (given_over block base xs) t None) is
    ∙ sym (overwritten (given_over block base xs) q (value_in block x) None)
    ∙ ap (λ (t : Text). with_value (with_value (given_over block base xs) t (value_in block x)) q None) (sym is ∙ ap (name_in block) (sym same))
given_over-unset block base (x ∷ xs) q (suc i) e get is n =
    ap (λ (d : Environment). with_value d (name_in block x) (value_in block x)) (given_over-unset block base xs q i e get is (λ j l. n (suc j) (omega (arith, l))))
    ∙ with_value-commutes (given_over block base xs) q (name_in block x) None (value_in block x) (differ q (name_in block x) (λ s. n 0 (omega arith) (x, refl, sym s)))

stays : (d : Environment) (q p : Text) (b : Bool) → bytes_eq p q ≡ b → lookup d q ≡ None → cond b None (lookup d p) ≡ lookup d p
stays d q p true t h = sym (ap (lookup d) (same_text p q t) ∙ h)
stays d q p false f h = refl

-- a name that no entry has can be unset
pub given_over-absent : (block : Text) (es : List Entry) (q : Text) → ((j : ℕ) → ¬ IsNamed block es q j) → given_over block finite.empty es ≡ with_value (given_over block finite.empty es) q None
given_over-absent block es q n =
    let all = given_over block finite.empty es in
    same_environment _ _ (λ p. sym (lookup-with_value all q None p ∙ stays all q p (bytes_eq p q) refl (sym (not_given block es q n))))

-- the names of one more entry
pub names_step : (block : Text) (es : List Entry) (i : ℕ) (d : Entry) (before : List Text) (old new : List (Bor Text))
    (x : Bor Text) → i < length es → slice_texts old ≡ before ++ map (name_in block) (take i es) → new ≡ old ++ x ∷ []
    → x.now ≡ name_in block (get_or es i d)
    → slice_texts new ≡ before ++ map (name_in block) (take (i + 1) es)
names_step block es i d before old new x l h grown is =
    ap slice_texts grown ∙ map-append (λ (y : Bor Text). y.now) old (x ∷ []) ∙ (rw (h, is) refl)
    ∙ append_assoc before (map (name_in block) (take i es)) (name_in block (get_or es i d) ∷ [])
    ∙ ap (λ (ns : List Text). before ++ ns) (sym (map-append (name_in block) (take i es) (get_or es i d ∷ [])) ∙ ap (map (name_in block)) (sym (take_more es i d l)))
  where
    take_more : (xs : List Entry) (n : ℕ) (z : Entry) → n < length xs → take (n + 1) xs ≡ take n xs ++ get_or xs n z ∷ []
    take_more xs n z m = let next : n + 1 ≡ suc n = omega arith in ap (λ (k : ℕ). take k xs) next ∙ take-suc xs n z m

-- a name that no entry has isn't set
pub not_named : (block : Text) (es : List Entry) (q : Text) → has q (map (name_in block) es) ≡ false → lookup (given_over block finite.empty es) q ≡ None
not_named block [] q h = nothing_set q
not_named block (x ∷ xs) q h = elim (cases_Bool (bytes_eq q (name_in block x))) [
  | inl t ↦ absurd (false≢true (sym h ∙ ap (λ (b : Bool). b || has q (map (name_in block) xs)) t))
  | inr f ↦ not_at block (given_over block finite.empty xs) x q (λ is. apart q (name_in block x) f (sym is)) ∙ not_named block xs q (sym (ap (λ (b : Bool). b || has q (map (name_in block) xs)) f) ∙ h)
]

-- a list of nothing but None
all_none : (n k : ℕ) (i : Option ℕ) → slice_get (replicate n None) k ≡ Some i → i ≡ None
all_none zero k i h = absurd (none_some h)
all_none (suc n) zero i h = sym (some_same None i h)
all_none (suc n) (suc k) i h = all_none n k i h

-- no entry, and chains that are empty
pub chained-none : (count : ℕ) (block : Text) (es : List Entry) (latest : List (Option ℕ)) (n : ℕ) → es ≡ [] → latest ≡ replicate n None → AreChained count block es latest
chained-none count block es latest n none all = rw (none, all) (record {
  inside = λ i e h. absurd (none_some h);
  chains = λ l. absurd (omega (arith, l));
  begins = λ chain i h. rw (all_none n chain i h) (λ j l p. omega (arith, l));
  leads = λ i e h. absurd (none_some h);
})
