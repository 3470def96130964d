-- Sets: item by item.
use Rattle.std.proofs.Common.{◌≡◌, ◌↔◌, ℕ, List, [], ◌∷◌, ◌++◌, Bool, true, false, not, ◌==◌, Option, Some, None, refl}
use Rattle.std.proofs.Common.{sym, ap, subst, ◌∙◌, arith, IsTrue, ◌⊎◌, inl, inr, append_assoc}
use Rattle.std.specs.Prelude.{MatchOption, MatchBool}
use Rattle.std.proofs.lemmas.Bool.Decides.{nat_tests}
use Rattle.tcltext.specs.pattern.Patterns as pattern
use Rattle.tcltext.specs.pattern.Patterns.{dash, close_bracket, is_between, no_dash, after_close, HoldsIn, IsMatch}
use Rattle.tcltext.specs.pattern.Search.Items.{Item, range_at, item_from, item_at}
use Rattle.tcltext.specs.pattern.Search.Tails.{IsTail, HoldsOnly, SetMatches}
use Rattle.tcltext.specs.pattern.Search.Windows.{first_of, without_first}

abbrev pub item : ℕ → ℕ → List ℕ → Item
item low high rest = record { low = low; high = high; rest = rest }

between_itself : (c : ℕ) → is_between c c c ≡ true
between_itself c = grind (arith, nat_tests)

not_between : (b c : ℕ) → (b == c) ≡ false → is_between b b c ≡ false
not_between b c h = grind (arith, nat_tests)

between_one : (b c : ℕ) → is_between b b c ≡ true → b ≡ c
between_one b c h = grind (arith, nat_tests)

not_one : (b c : ℕ) → is_between b b c ≡ false → (b == c) ≡ false
not_one b c h = grind (arith, nat_tests)

is_dash : (d : ℕ) → (d == dash) ≡ true → d ≡ dash
is_dash d h = grind (arith, nat_tests)

not_not : (t : Bool) → not t ≡ true → t ≡ false
not_not true h = cc
not_not false h = refl

item-one : (c : ℕ) (ps : List ℕ) → (c == close_bracket) ≡ false → no_dash ps ≡ true → item_at (c ∷ ps) ≡ Some (item c c ps)
item-one c [] h k = rw h refl
item-one c (d ∷ ps) h k = let n : (d == dash) ≡ false = not_not (d == dash) k in rw (h, n) refl

item-range : (low high : ℕ) (ps : List ℕ) → (low == close_bracket) ≡ false → item_at (low ∷ (dash ∷ (high ∷ ps))) ≡ Some (item low high ps)
item-range low high ps h = rw h refl

-- what a set that holds the character does with its first item
abbrev pub ItemHolds : ℕ → List ℕ → Item → Type 0
ItemHolds c rest i = MatchBool (is_between i.low i.high c) (rest ≡ after_close i.rest) (HoldsIn c i.rest rest)

abbrev pub FirstHolds : ℕ → List ℕ → Option Item → Type 0
FirstHolds c rest found = MatchOption found ⊥ (ItemHolds c rest)

here : (c : ℕ) (rest : List ℕ) (i : Item) → is_between i.low i.high c ≡ true → rest ≡ after_close i.rest → ItemHolds c rest i
here c rest i h e = rw h e

later : (c : ℕ) (rest : List ℕ) (i : Item) → is_between i.low i.high c ≡ false → HoldsIn c i.rest rest → ItemHolds c rest i
later c rest i h e = rw h e

holds_first : {c : ℕ} {ps rest : List ℕ} → HoldsIn c ps rest → FirstHolds c rest (item_at ps)
holds_first {c} (pattern.HoldsIn.as_item {ps} h k) = rw (item-one c ps h k) (here c (after_close ps) (item c c ps) (between_itself c) refl)
holds_first {c} (pattern.HoldsIn.in_range {low} {high} {ps} h k) = rw (item-range low high ps h) (here c (after_close ps) (item low high ps) k refl)
holds_first {c} (pattern.HoldsIn.past_item {b} {ps} {rest} h k l m) = rw (item-one b ps h l) (later c rest (item b b ps) (not_between b c k) m)
holds_first {c} (pattern.HoldsIn.past_range {low} {high} {ps} {rest} h k m) = rw (item-range low high ps h) (later c rest (item low high ps) k m)

-- the other way
abbrev IsItemOf : List ℕ → Item → Type 0
IsItemOf ps i =
    ((ps ≡ i.low ∷ i.rest) × (i.high ≡ i.low) × ((i.low == close_bracket) ≡ false) × (no_dash i.rest ≡ true))
    ⊎ ((ps ≡ i.low ∷ (dash ∷ (i.high ∷ i.rest))) × ((i.low == close_bracket) ≡ false))

abbrev IfItemOf : List ℕ → Option Item → Type 0
IfItemOf ps None = Unit {0}
IfItemOf ps (Some i) = IsItemOf ps i

from_range : (low d : ℕ) (ps : List ℕ) → (low == close_bracket) ≡ false → d ≡ dash → IfItemOf (low ∷ (d ∷ ps)) (range_at low ps)
from_range low d [] h e = tt
from_range low d (high ∷ ps) h e = inr (ap (λ x. low ∷ (x ∷ (high ∷ ps))) e, h)

from_dash : (low d : ℕ) (ps : List ℕ) (t : Bool) → (d == dash) ≡ t → (low == close_bracket) ≡ false → IfItemOf (low ∷ (d ∷ ps)) (item_from low (d ∷ ps))
from_dash low d ps true t h = rw t (from_range low d ps h (is_dash d t))
from_dash low d ps false t h = rw t (inl (refl, refl, h, ap not t))

from_low : (low : ℕ) (ps : List ℕ) (t : Bool) → (low == close_bracket) ≡ t → IfItemOf (low ∷ ps) (item_at (low ∷ ps))
from_low low ps true t = rw t tt
from_low low [] false t = rw t (inl (refl, refl, t, refl))
from_low low (d ∷ ps) false t = rw t (from_dash low d ps (d == dash) refl t)

item_of : (ps : List ℕ) → IfItemOf ps (item_at ps)
item_of [] = tt
item_of (low ∷ ps) = from_low low ps (low == close_bracket) refl

item_is : (ps : List ℕ) (i : Item) → item_at ps ≡ Some i → IsItemOf ps i
item_is ps i h = subst (IfItemOf ps) h (item_of ps)

holds_here : (c : ℕ) (ps : List ℕ) (i : Item) → IsItemOf ps i → is_between i.low i.high c ≡ true → HoldsIn c ps (after_close i.rest)
holds_here c ps i (inl h) k =
    let same : i.low ≡ c = between_one i.low c (subst (λ x. is_between i.low x c ≡ true) h.1 k) in
    subst (λ xs. HoldsIn c xs (after_close i.rest)) (sym (h.0 ∙ ap (λ x. x ∷ i.rest) same)) (pattern.HoldsIn.as_item (subst (λ x. (x == close_bracket) ≡ false) same h.2) h.3)
holds_here c ps i (inr h) k = subst (λ xs. HoldsIn c xs (after_close i.rest)) (sym h.0) (pattern.HoldsIn.in_range h.1 k)

holds_later : (c : ℕ) (ps rest : List ℕ) (i : Item) → IsItemOf ps i → is_between i.low i.high c ≡ false → HoldsIn c i.rest rest → HoldsIn c ps rest
holds_later c ps rest i (inl h) k m =
    subst (λ xs. HoldsIn c xs rest) (sym h.0) (pattern.HoldsIn.past_item h.2 (not_one i.low c (subst (λ x. is_between i.low x c ≡ false) h.1 k)) h.3 m)
holds_later c ps rest i (inr h) k m = subst (λ xs. HoldsIn c xs rest) (sym h.0) (pattern.HoldsIn.past_range h.1 k m)

-- the rest of a set holds the character with what the set holds it with
abbrev pub HoldsAs : ℕ → List ℕ → List ℕ → Type 0
HoldsAs c xs ys = (rest : List ℕ) → HoldsIn c xs rest ↔ HoldsIn c ys rest

first_later : (c : ℕ) (rest : List ℕ) (i : Item) → is_between i.low i.high c ≡ false → ItemHolds c rest i → HoldsIn c i.rest rest
first_later c rest i k h = rw k at h

first_here : (c : ℕ) (rest : List ℕ) (i : Item) → is_between i.low i.high c ≡ true → ItemHolds c rest i → rest ≡ after_close i.rest
first_here c rest i k h = rw k at h

of_first : (c : ℕ) (xs rest : List ℕ) (i : Item) → item_at xs ≡ Some i → HoldsIn c xs rest → ItemHolds c rest i
of_first c xs rest i e h = subst (FirstHolds c rest) e (holds_first h)

pub holds_as-more : (c : ℕ) (set xs : List ℕ) (i : Item) → item_at xs ≡ Some i → is_between i.low i.high c ≡ false → HoldsAs c xs set → HoldsAs c i.rest set
holds_as-more c set xs i e k same = λ rest. (
  λ h. (same rest).0 (holds_later c xs rest i (item_is xs i e) k h),
  λ h. first_later c rest i k (of_first c xs rest i e ((same rest).1 h)),
)

pub holds_as-here : (c : ℕ) (set xs rest : List ℕ) (i : Item) → item_at xs ≡ Some i → is_between i.low i.high c ≡ true → rest ≡ after_close i.rest → HoldsAs c xs set → HoldsOnly c set rest
holds_as-here c set xs rest i e k is same = (
  (same rest).0 (subst (HoldsIn c xs) (sym is) (holds_here c xs i (item_is xs i e) k)),
  λ other h. first_here c other i k (of_first c xs other i e ((same other).1 h)) ∙ sym is,
)

-- Tails
pub tail-itself : (xs : List ℕ) → IsTail xs xs
tail-itself xs = ([], refl)

pub tail-more : (xs ys zs : List ℕ) → IsTail xs ys → IsTail ys zs → IsTail xs zs
tail-more xs ys zs h k = (h.0 ++ k.0, h.1 ∙ ap (λ q. h.0 ++ q) k.1 ∙ sym (append_assoc h.0 k.0 zs))

pub tail-cons : (xs ys : List ℕ) (y : ℕ) → xs ≡ y ∷ ys → IsTail xs ys
tail-cons xs ys y e = (y ∷ [], e)

-- What follows the next closing bracket
no_close : (c : ℕ) → (c ≡ close_bracket → ⊥) → (c == close_bracket) ≡ false
no_close c h = grind (arith, nat_tests)

pub after_close-more : (xs ys : List ℕ) (c : ℕ) → xs ≡ c ∷ ys → (c ≡ close_bracket → ⊥) → after_close xs ≡ after_close ys
after_close-more xs ys c e h = ap after_close e ∙ rw (no_close c h) refl

-- A set that holds a character goes on in one way
pub holds_one : {c : ℕ} {ps rest : List ℕ} → HoldsIn c ps rest → (other : List ℕ) → HoldsIn c ps other → other ≡ rest
holds_one {c} (pattern.HoldsIn.as_item {ps} h k) other m =
    first_here c other (item c c ps) (between_itself c) (of_first c (c ∷ ps) other (item c c ps) (item-one c ps h k) m)
holds_one {c} (pattern.HoldsIn.in_range {low} {high} {ps} h k) other m =
    first_here c other (item low high ps) k (of_first c (low ∷ (dash ∷ (high ∷ ps))) other (item low high ps) (item-range low high ps h) m)
holds_one {c} (pattern.HoldsIn.past_item {b} {ps} {rest} h k l n) other m =
    holds_one n other (first_later c other (item b b ps) (not_between b c k) (of_first c (b ∷ ps) other (item b b ps) (item-one b ps h l) m))
holds_one {c} (pattern.HoldsIn.past_range {low} {high} {ps} {rest} h k n) other m =
    holds_one n other (first_later c other (item low high ps) k (of_first c (low ∷ (dash ∷ (high ∷ ps))) other (item low high ps) (item-range low high ps h) m))

close_cases : (c : ℕ) (ps : List ℕ) (t : Bool) → (c == close_bracket) ≡ t → IsTail ps (after_close ps) → IsTail (c ∷ ps) (after_close (c ∷ ps))
close_cases c ps true t tail = rw t (c ∷ [], refl)
close_cases c ps false t tail = rw t (c ∷ tail.0, ap (λ xs. c ∷ xs) tail.1)

close_tail : (ps : List ℕ) → IsTail ps (after_close ps)
close_tail [] = ([], refl)
close_tail (c ∷ ps) = close_cases c ps (c == close_bracket) refl (close_tail ps)

pub tail-under : (x : ℕ) (xs ys : List ℕ) → IsTail xs ys → IsTail (x ∷ xs) ys
tail-under x xs ys h = (x ∷ h.0, ap (λ zs. x ∷ zs) h.1)

pub holds_tail : {c : ℕ} {ps rest : List ℕ} → HoldsIn c ps rest → IsTail ps rest
holds_tail {c} (pattern.HoldsIn.as_item {ps} h k) = tail-under c ps (after_close ps) (close_tail ps)
holds_tail (pattern.HoldsIn.in_range {low} {high} {ps} h k) =
    tail-under low (dash ∷ (high ∷ ps)) (after_close ps) (tail-under dash (high ∷ ps) (after_close ps) (tail-under high ps (after_close ps) (close_tail ps)))
holds_tail (pattern.HoldsIn.past_item {b} {ps} {rest} h k l m) = tail-under b ps rest (holds_tail m)
holds_tail (pattern.HoldsIn.past_range {low} {high} {ps} {rest} h k m) = tail-under low (dash ∷ (high ∷ ps)) rest (tail-under dash (high ∷ ps) rest (tail-under high ps rest (holds_tail m)))

-- A set of which what follows it matches
pub set_here : (c : ℕ) (set cs : List ℕ) (i : Item) → item_at set ≡ Some i → is_between i.low i.high c ≡ true → IsMatch (after_close i.rest) cs ↔ SetMatches c set cs
set_here c set cs i e b = (
  λ m. (after_close i.rest, holds_here c set i (item_is set i e) b, m),
  λ h. subst (λ xs. IsMatch xs cs) (first_here c h.0 i b (of_first c set h.0 i e h.1)) h.2,
)

pub set_past : (c : ℕ) (set cs : List ℕ) (i : Item) → item_at set ≡ Some i → is_between i.low i.high c ≡ false → SetMatches c i.rest cs ↔ SetMatches c set cs
set_past c set cs i e b = (
  λ h. (h.0, holds_later c set h.0 i (item_is set i e) b h.1, h.2),
  λ h. (h.0, first_later c h.0 i b (of_first c set h.0 i e h.1), h.2),
)

pub set_ends : (c : ℕ) (set cs : List ℕ) → item_at set ≡ None → IsTrue false ↔ SetMatches c set cs
set_ends c set cs e = (λ h. absurd (never h), λ h. absurd (subst (FirstHolds c h.0) e (holds_first h.1))) where
  never : false ≡ true → ⊥
  never h = cc

pub item_at-close : (p : ℕ) (xs : List ℕ) → p ≡ close_bracket → item_at (p ∷ xs) ≡ None
item_at-close p xs e = subst (λ x. item_at (x ∷ xs) ≡ None) (sym e) refl

dash_first : (d : ℕ) → Some d ≡ Some dash → d ≡ dash
dash_first d e = cc

not_dash : (d : ℕ) → (Some d ≡ Some dash → ⊥) → (d == dash) ≡ false
not_dash d h = other d (λ e. h (ap (λ x. Some x) e)) where
  other : (d : ℕ) → (d ≡ dash → ⊥) → (d == dash) ≡ false
  other d h = grind (arith, nat_tests)

pub item_at-one : (p : ℕ) (xs : List ℕ) → (p ≡ close_bracket → ⊥) → (first_of xs ≡ Some dash → ⊥) → item_at (p ∷ xs) ≡ Some (item p p xs)
item_at-one p [] n m = item-one p [] (no_close p n) refl
item_at-one p (d ∷ xs) n m = item-one p (d ∷ xs) (no_close p n) (ap not (not_dash d m))

pub item_at-range : (p high : ℕ) (xs : List ℕ) → (p ≡ close_bracket → ⊥) → first_of xs ≡ Some dash
    → first_of (without_first xs) ≡ Some high → item_at (p ∷ xs) ≡ Some (item p high (without_first (without_first xs)))
item_at-range p high [] n e k = absurd (nothing e) where
  nothing : None ≡ Some dash → ⊥
  nothing e = cc
item_at-range p high (d ∷ []) n e k = absurd (nothing k) where
  nothing : None ≡ Some high → ⊥
  nothing e = cc
item_at-range p high (d ∷ (h ∷ xs)) n e k =
    let same : h ≡ high = cc in
    ap (λ x. item_at (p ∷ (x ∷ (h ∷ xs)))) (dash_first d e) ∙ item-range p h xs (no_close p n) ∙ ap (λ x. Some (item p x xs)) same

pub item_at-open : (p : ℕ) (xs : List ℕ) → (p ≡ close_bracket → ⊥) → first_of xs ≡ Some dash → first_of (without_first xs) ≡ None → item_at (p ∷ xs) ≡ None
item_at-open p [] n e k = absurd (nothing e) where
  nothing : None ≡ Some dash → ⊥
  nothing e = cc
item_at-open p (d ∷ []) n e k = ap (λ x. item_at (p ∷ (x ∷ []))) (dash_first d e) ∙ rw (no_close p n) refl
item_at-open p (d ∷ (h ∷ xs)) n e k = absurd (nothing k) where
  nothing : Some h ≡ None → ⊥
  nothing e = cc
