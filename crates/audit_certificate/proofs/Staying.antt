-- Which modules of a list are selected: those that clash with none that is selected and comes before them.
use Rattle.std.proofs.Common.{arith, zero, suc, ◌≡◌, ◌↔◌, inl, inr, ℕ, ◌<◌, ◌≤◌, Bool, true, false, not, ◌&&◌}
use Rattle.std.proofs.Common.{◌||◌, List, [], ◌∷◌, filter, length, refl, sym, ap, ◌∙◌, Option, Some, None}
use Rattle.std.specs.Prelude.{bytes_eq}
use Rattle.std.specs.List.{list_any}
use Rattle.std.specs.Option.{option_eq}
use Rattle.std.proofs.Common.{Ordering, Less, Equal, Greater, nat_cmp}
use Rattle.std.specs.Ordering.{ordering_then, ordering_reverse, is_lt, is_eq}
use Rattle.std.specs.Cmp.{IsTotalOrder}
use Rattle.std.specs.Cmp.Lexicographic.{slice_cmp}
use Rattle.std.proofs.lemmas.Bool.{false≢true, eqb-true, and_parts, and_from, not-true}
use Rattle.std.proofs.lemmas.Cmp.{nat_cmp_total, nat_list_cmp_total, on_total, then_total, tied_itself}
use Rattle.std.proofs.lemmas.Map.Text.{is_eq-slice_cmp}
use Rattle.envvars.specs.Texts.{Text}
use Rattle.envvars.proofs.TextLemmas.{bytes_eq-symmetric}
use Rattle.audit_certificate.specs.Candidates.{Candidate}
use Rattle.reversal.specs.VariableUses.{VariableUse, Untouched, Fixed, Absent, Pathed, Stacked}
use Rattle.audit_certificate.specs.RecordUses.{IsAmong}
use Rattle.audit_certificate.specs.Clashes.{is_other, excludes_by, are_mutually_exclusive, are_compatible, agree_at_start, uses_clash}
use Rattle.audit_certificate.specs.Clashes.{Clash, do_clash}
use Rattle.audit_certificate.specs.Ranks.{competitors, rank_order, comes_before}
use Rattle.audit_certificate.specs.Certificates.{clashes_before, is_selected, selected}
use Rattle.audit_certificate.proofs.UsedLemmas.{by_test}
use Rattle.audit_certificate.proofs.Members.{fails_each}
use Rattle.audit_certificate.proofs.Exact.{any_some, some_any, filtered, in_filter, clashes, to_clashes}

-- tests of lists

any_alike : {X : Type 0} (p q : X → Bool) (xs : List X) → ((x : X) → IsAmong x xs → p x ≡ q x) → list_any p xs ≡ list_any q xs
any_alike p q [] h = refl
any_alike p q (x ∷ xs) h = ap (λ (b : Bool). b || list_any p xs) (h x (inl refl)) ∙ ap (λ (b : Bool). q x || b) (any_alike p q xs (λ y a. h y (inr a)))

any_kept : {X : Type 0} (p q : X → Bool) (xs : List X) → list_any p (filter q xs) ≡ list_any (λ x. q x && p x) xs
any_kept p q [] = refl
any_kept p q (x ∷ xs) = by_test (q x) _ (λ t. rw t (ap (λ (b : Bool). p x || b) (any_kept p q xs))) (λ f. rw f (any_kept p q xs))

-- a test that none passes, where none passes a weaker one
pub none_of : {X : Type 0} (p q : X → Bool) (xs : List X) → ((x : X) → IsAmong x xs → p x ≡ true → q x ≡ true) → list_any q xs ≡ false → list_any p xs ≡ false
none_of p q xs h k = by_test (list_any p xs) _
    (λ t. let s = any_some p xs t in absurd (false≢true (sym k ∙ some_any q xs s.0 s.1 (h s.0 s.1 s.2))))
    (λ f. f)

and_no : (a b : Bool) → b ≡ false → (a && b) ≡ false
and_no true b h = h
and_no false b h = refl

-- how many pass

more_pass : {X : Type 0} (p q : X → Bool) (xs : List X) → ((x : X) → p x ≡ true → q x ≡ true) → length (filter p xs) ≤ length (filter q xs)
more_pass p q [] h = omega arith
more_pass p q (x ∷ xs) h = by_test (q x) _
    (λ t. by_test (p x) _ (λ u. rw (t, u) (omega (arith, more_pass p q xs h))) (λ u. rw (t, u) (omega (arith, more_pass p q xs h))))
    (λ t. by_test (p x) _ (λ u. absurd (false≢true (sym t ∙ h x u))) (λ u. rw (t, u) (more_pass p q xs h)))

one_more_passes : {X : Type 0} (p q : X → Bool) (xs : List X) (x : X) → ((y : X) → p y ≡ true → q y ≡ true) → IsAmong x xs → p x ≡ false → q x ≡ true
    → length (filter p xs) < length (filter q xs)
one_more_passes p q [] x h a fails passes = absurd a
one_more_passes p q (y ∷ ys) x h (inl e) fails passes = rw (ap p (sym e) ∙ fails, ap q (sym e) ∙ passes) (omega (arith, more_pass p q ys h))
one_more_passes p q (y ∷ ys) x h (inr a) fails passes = by_test (q y) _
    (λ t. by_test (p y) _
    (λ u. rw (t, u) (omega (arith, one_more_passes p q ys x h a fails passes))) (λ u. rw (t, u) (omega (arith, one_more_passes p q ys x h a fails passes))))
    (λ t. by_test (p y) _ (λ u. absurd (false≢true (sym t ∙ h y u))) (λ u. rw (t, u) (one_more_passes p q ys x h a fails passes)))

all_pass : {X : Type 0} (xs : List X) → length (filter (λ x. true) xs) ≡ length xs
all_pass [] = refl
all_pass (x ∷ xs) = omega (arith, all_pass xs)

-- ---- the order

pub rank_total : (ms : List Candidate) → IsTotalOrder (rank_order ms)
rank_total ms = then_total (on_total (competitors ms) nat_cmp_total) (then_total (on_total (λ (m : Candidate). m.name) nat_list_cmp_total) (on_total (λ (m : Candidate). m.path) nat_list_cmp_total))

is_less : (o : Ordering) → is_lt o ≡ true → o ≡ Less
is_less Less h = refl
is_less Equal h = absurd (false≢true h)
is_less Greater h = absurd (false≢true h)

pub before_through : (ms : List Candidate) (k m n : Candidate) → comes_before ms k m ≡ true → comes_before ms m n ≡ true → comes_before ms k n ≡ true
before_through ms k m n h i =
    ap is_lt ((rank_total ms).trans k m n (is_less (rank_order ms k m) h) (is_less (rank_order ms m n) i))

before_itself : (ms : List Candidate) (m : Candidate) → comes_before ms m m ≡ false
before_itself ms m = ap is_lt (tied_itself (rank_total ms) m)

both_equal : (a b : Ordering) → ordering_then a b ≡ Equal → (a ≡ Equal) × (b ≡ Equal)
both_equal Less b h = absurd (false≢true (ap is_eq h))
both_equal Equal b h = (refl, h)
both_equal Greater b h = absurd (false≢true (ap is_eq h))

same_parts : (ms : List Candidate) (m n : Candidate) → rank_order ms m n ≡ Equal → is_other m n ≡ false
same_parts ms m n h =
    let p = both_equal (nat_cmp (competitors ms m) (competitors ms n)) (ordering_then (slice_cmp nat_cmp m.name n.name) (slice_cmp nat_cmp m.path n.path)) h in
    let q = both_equal (slice_cmp nat_cmp m.name n.name) (slice_cmp nat_cmp m.path n.path) p.1 in
    ap not (and_from (bytes_eq m.name n.name) (bytes_eq m.path n.path)
    (sym (is_eq-slice_cmp m.name n.name) ∙ ap is_eq q.0) (sym (is_eq-slice_cmp m.path n.path) ∙ ap is_eq q.1))

pub before_either : (ms : List Candidate) (m n : Candidate) → is_other m n ≡ true → comes_before ms m n ≡ false → comes_before ms n m ≡ true
before_either ms m n o h = by (rank_order ms m n) refl
  where
    by : (r : Ordering) → rank_order ms m n ≡ r → comes_before ms n m ≡ true
    by Less e = absurd (false≢true (sym h ∙ ap is_lt e))
    by Equal e = absurd (false≢true (sym (same_parts ms m n e) ∙ o))
    by Greater e = ap is_lt ((rank_total ms).antisymm n m ∙ ap ordering_reverse e)

-- ---- how many come before

abbrev before_count : List Candidate → Candidate → ℕ
before_count ms m = length (filter (λ k. comes_before ms k m) ms)

fewer_before : (ms : List Candidate) (k m : Candidate) → IsAmong k ms → comes_before ms k m ≡ true → before_count ms k < before_count ms m
fewer_before ms k m a h = one_more_passes (λ n. comes_before ms n k) (λ n. comes_before ms n m) ms k (λ n i. before_through ms n k m i h) a (before_itself ms k) h

not_all_before : (ms : List Candidate) (m : Candidate) → IsAmong m ms → before_count ms m < length ms
not_all_before ms m a = omega (arith, one_more_passes (λ n. comes_before ms n m) (λ n. true) ms m (λ n i. refl) a (before_itself ms m) refl, all_pass ms)

-- ---- who is selected

no_earlier_clash : (ms : List Candidate) (k m : Candidate) → comes_before ms k m ≡ false → clashes_before ms k m ≡ false
no_earlier_clash ms k m h = ap (λ (b : Bool). b && (is_other m k && do_clash m k)) h

same_stays : (ms : List Candidate) (n : ℕ) (m : Candidate) → before_count ms m < n → is_selected n ms m ≡ is_selected (suc n) ms m
same_stays ms zero m l = absurd (omega (arith, l))
same_stays ms (suc n) m l = ap not (any_alike (λ k. is_selected n ms k && clashes_before ms k m) (λ k. is_selected (suc n) ms k && clashes_before ms k m) ms
    (λ k a. by_test (comes_before ms k m) _
    (λ t. ap (λ (b : Bool). b && clashes_before ms k m) (same_stays ms n k (omega (arith, fewer_before ms k m a t, l))))
    (λ f. and_no (is_selected n ms k) (clashes_before ms k m) (no_earlier_clash ms k m f) ∙ sym (and_no (is_selected (suc n) ms k) (clashes_before ms k m) (no_earlier_clash ms k m f)))))

-- a module clashes with none of these that comes before it
abbrev pub is_free : List Candidate → List Candidate → Candidate → Bool
is_free ms cs m = not (list_any (λ k. clashes_before ms k m) cs)

stays_is : (ms : List Candidate) (m : Candidate) → IsAmong m ms → is_selected (length ms) ms m ≡ is_free ms (selected ms) m
stays_is ms m a = same_stays ms (length ms) m (not_all_before ms m a) ∙ ap not (sym (any_kept (λ k. clashes_before ms k m) (is_selected (length ms) ms) ms))

pub of_staying : (ms : List Candidate) (m : Candidate) → IsAmong m (selected ms) → IsAmong m ms × (is_free ms (selected ms) m ≡ true)
of_staying ms m h = let f = filtered (is_selected (length ms) ms) ms m h in (f.0, sym (stays_is ms m f.0) ∙ f.1)

pub to_staying : (ms : List Candidate) (m : Candidate) → IsAmong m ms → is_free ms (selected ms) m ≡ true → IsAmong m (selected ms)
to_staying ms m a h = in_filter (is_selected (length ms) ms) ms m a (stays_is ms m a ∙ h)

-- ---- clashes, from the other side

option_turned : (x y : Option Text) → option_eq bytes_eq x y ≡ option_eq bytes_eq y x
option_turned None None = refl
option_turned None (Some y) = refl
option_turned (Some x) None = refl
option_turned (Some x) (Some y) = bytes_eq-symmetric x y

-- compatible uses are one
pub go_equal : (x y : VariableUse) → are_compatible x y ≡ true → x ≡ y
go_equal Untouched Untouched h = refl
go_equal Untouched (Fixed a) h = absurd (false≢true h)
go_equal Untouched Absent h = absurd (false≢true h)
go_equal Untouched (Pathed d) h = absurd (false≢true h)
go_equal Untouched Stacked h = absurd (false≢true h)
go_equal (Fixed a) y h = absurd (false≢true h)
go_equal Absent Untouched h = absurd (false≢true h)
go_equal Absent (Fixed a) h = absurd (false≢true h)
go_equal Absent Absent h = refl
go_equal Absent (Pathed d) h = absurd (false≢true h)
go_equal Absent Stacked h = absurd (false≢true h)
go_equal (Pathed d) Untouched h = absurd (false≢true h)
go_equal (Pathed d) (Fixed a) h = absurd (false≢true h)
go_equal (Pathed d) Absent h = absurd (false≢true h)
go_equal (Pathed d) (Pathed k) h = ap Pathed (eqb-true d k h)
go_equal (Pathed d) Stacked h = absurd (false≢true h)
go_equal Stacked Untouched h = absurd (false≢true h)
go_equal Stacked (Fixed a) h = absurd (false≢true h)
go_equal Stacked Absent h = absurd (false≢true h)
go_equal Stacked (Pathed d) h = absurd (false≢true h)
go_equal Stacked Stacked h = refl

go_turned : (x y : VariableUse) → are_compatible x y ≡ are_compatible y x
go_turned x y = by_test (are_compatible x y) _
    (λ t. let e : x ≡ y = go_equal x y t in λ i. are_compatible (e i) (sym e i))
    (λ f. by_test (are_compatible y x) _
    (λ t. let e : y ≡ x = go_equal y x t in λ i. are_compatible (sym e i) (e i)) (λ g. f ∙ sym g))

agree_turned : (x y : VariableUse) → agree_at_start x y ≡ agree_at_start y x
agree_turned Untouched Untouched = refl
agree_turned Untouched (Fixed b) = refl
agree_turned Untouched Absent = refl
agree_turned Untouched (Pathed b) = refl
agree_turned Untouched Stacked = refl
agree_turned (Fixed a) Untouched = refl
agree_turned (Fixed a) (Fixed b) = option_turned a b
agree_turned (Fixed a) Absent = refl
agree_turned (Fixed a) (Pathed b) = refl
agree_turned (Fixed a) Stacked = refl
agree_turned Absent Untouched = refl
agree_turned Absent (Fixed b) = refl
agree_turned Absent Absent = refl
agree_turned Absent (Pathed b) = refl
agree_turned Absent Stacked = refl
agree_turned (Pathed a) Untouched = refl
agree_turned (Pathed a) (Fixed b) = refl
agree_turned (Pathed a) Absent = refl
agree_turned (Pathed a) (Pathed b) = refl
agree_turned (Pathed a) Stacked = refl
agree_turned Stacked Untouched = refl
agree_turned Stacked (Fixed b) = refl
agree_turned Stacked Absent = refl
agree_turned Stacked (Pathed b) = refl
agree_turned Stacked Stacked = refl

or_turned : (a b : Bool) → (a || b) ≡ (b || a)
or_turned true true = refl
or_turned true false = refl
or_turned false true = refl
or_turned false false = refl

apart_turned : (m n : Candidate) (x y : VariableUse) → are_mutually_exclusive m n x y ≡ are_mutually_exclusive n m y x
apart_turned m n x y =
    ap (λ (b : Bool). b || (excludes_by x m n || excludes_by y n m)) (bytes_eq-symmetric m.name n.name)
    ∙ ap (λ (b : Bool). bytes_eq n.name m.name || b) (or_turned (excludes_by x m n) (excludes_by y n m))

uses_turned : (e : Bool) (x y : VariableUse) → uses_clash e x y ≡ uses_clash e y x
uses_turned e x y = λ i. not (e || go_turned x y i) || not (agree_turned x y i)

clash_turned : (m n : Candidate) (v : Text) (x y : VariableUse) → Clash m n v x y → Clash n m v y x
clash_turned m n v x y c = record {
  first = c.second;
  second = c.first;
  clash = ap (λ (e : Bool). uses_clash e y x) (apart_turned n m y x) ∙ (uses_turned (are_mutually_exclusive m n x y) y x ∙ c.clash);
}

pub other_turned : (m n : Candidate) → is_other m n ≡ is_other n m
other_turned m n = λ i. not (bytes_eq-symmetric m.name n.name i && bytes_eq-symmetric m.path n.path i)

pub do_clash_turned : (m n : Candidate) → do_clash m n ≡ true → do_clash n m ≡ true
do_clash_turned m n h = let c = clashes m n h in to_clashes n m c.variable c.other c.one (clash_turned m n c.variable c.one c.other c.clash)

-- ---- together, and no more

pub free_of : (ms cs : List Candidate) (k m : Candidate) → is_free ms cs m ≡ true → IsAmong k cs → clashes_before ms k m ≡ false
free_of ms cs k m h a = fails_each (λ n. clashes_before ms n m) cs k (not-true (list_any (λ n. clashes_before ms n m) cs) h) a

pub clash_before : (ms : List Candidate) (k m : Candidate) → comes_before ms k m ≡ true → is_other m k ≡ true → do_clash m k ≡ true → clashes_before ms k m ≡ true
clash_before ms k m b o c = and_from (comes_before ms k m) (is_other m k && do_clash m k) b (and_from (is_other m k) (do_clash m k) o c)

-- no two that are selected clash
pub staying_apart : (ms : List Candidate) (m n : Candidate) → IsAmong m (selected ms) → IsAmong n (selected ms) → is_other m n ≡ true → do_clash m n ≡ true → ⊥
staying_apart ms m n a b o c = by_test (comes_before ms m n) _
    (λ t. false≢true (sym (free_of ms (selected ms) m n (of_staying ms n b).1 a)
    ∙ clash_before ms m n t (sym (other_turned m n) ∙ o) (do_clash_turned m n c)))
    (λ f. false≢true (sym (free_of ms (selected ms) n m (of_staying ms m a).1 b) ∙ clash_before ms n m (before_either ms m n o f) o c))

-- whoever clashes with none of them is selected
pub staying_most : (ms : List Candidate) (m : Candidate) → IsAmong m ms → ((n : Candidate) → IsAmong n (selected ms) → is_other m n ≡ true → do_clash m n ≡ true → ⊥) → IsAmong m (selected ms)
staying_most ms m a h = to_staying ms m a (by_test (list_any (λ k. clashes_before ms k m) (selected ms)) _
    (λ t. let s = any_some (λ k. clashes_before ms k m) (selected ms) t in
    let p = and_parts (comes_before ms s.0 m) (is_other m s.0 && do_clash m s.0) s.2 in
    let q = and_parts (is_other m s.0) (do_clash m s.0) p.1 in
    absurd (h s.0 s.1 q.0 q.1))
    (λ f. ap not f))

-- who isn't selected clashes with one that does
pub aside_clashes : (ms : List Candidate) (m : Candidate) → IsAmong m ms → (IsAmong m (selected ms) → ⊥)
    → (n : Candidate) × IsAmong n (selected ms) × (comes_before ms n m ≡ true) × (is_other m n ≡ true) × (do_clash m n ≡ true)
aside_clashes ms m a h = by_test (list_any (λ k. clashes_before ms k m) (selected ms)) _
    (λ t. let s = any_some (λ k. clashes_before ms k m) (selected ms) t in
    let p = and_parts (comes_before ms s.0 m) (is_other m s.0 && do_clash m s.0) s.2 in
    let q = and_parts (is_other m s.0) (do_clash m s.0) p.1 in
    (s.0, s.1, p.0, q.0, q.1))
    (λ f. absurd (h (to_staying ms m a (ap not f))))

-- ---- one choice

-- each of the list is one of these exactly where it clashes with none of them that comes before it
abbrev pub IsChoice : List Candidate → List Candidate → Type 0
IsChoice ms cs = (m : Candidate) → IsAmong m cs ↔ (IsAmong m ms × (is_free ms cs m ≡ true))

pub staying_chosen : (ms : List Candidate) → IsChoice ms (selected ms)
staying_chosen ms m = (of_staying ms m, λ h. to_staying ms m h.0 h.1)

as_chosen : (ms cs ds : List Candidate) → IsChoice ms cs → IsChoice ms ds → (n : ℕ) (m : Candidate) → before_count ms m < n → IsAmong m cs → IsAmong m ds
as_chosen ms cs ds c d zero m l a = absurd (omega (arith, l))
as_chosen ms cs ds c d (suc n) m l a =
    let p = (c m).0 a in
    (d m).1 (
      p.0,
      by_test (list_any (λ k. clashes_before ms k m) ds) _
          (λ t. let s = any_some (λ k. clashes_before ms k m) ds t in
          let b = (and_parts (comes_before ms s.0 m) (is_other m s.0 && do_clash m s.0) s.2).0 in
          let k = as_chosen ms ds cs d c n s.0 (omega (arith, fewer_before ms s.0 m ((d s.0).0 s.1).0 b, l)) s.1 in
          absurd (false≢true (sym (free_of ms cs s.0 m p.1 k) ∙ s.2)))
          (λ f. ap not f),
    )

pub one_choice : (ms cs ds : List Candidate) → IsChoice ms cs → IsChoice ms ds → (m : Candidate) → IsAmong m cs → IsAmong m ds
one_choice ms cs ds c d m a = as_chosen ms cs ds c d (suc (before_count ms m)) m (omega arith) a
