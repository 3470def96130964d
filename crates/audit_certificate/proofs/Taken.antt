-- Modules that are taken in their order are those that are selected.
use Rattle.std.proofs.Common.{arith, suc, ◌≡◌, ◌⊎◌, ◌↔◌, inl, inr, ℕ, ◌+◌, ◌<◌, ◌≤◌, Bool, true, false, cond, not, ◌&&◌}
use Rattle.std.proofs.Common.{List, [], ◌∷◌, ◌++◌, map, length, take, get_or, refl, sym, ap, ◌∙◌, subst, nat_cmp}
use Rattle.std.specs.List.{list_any, fold}
use Rattle.std.specs.List.Sorted.{IsPermutation, IsSortedBy}
use Rattle.std.specs.Cmp.{IsTotalOrder, IsStrictWeakOrder}
use Rattle.std.specs.Ordering.{is_lt, ordering_then}
use Rattle.std.specs.Cmp.Lexicographic.{slice_cmp}
use Rattle.std.proofs.lemmas.Bool.{false≢true, and_parts}
use Rattle.std.proofs.lemmas.List.{map-append}
use Rattle.std.proofs.lemmas.List.Sorted.{sorted_far, ranks_by, IsPermutation-sym}
use Rattle.std.proofs.lemmas.Cmp.{nat_cmp_total, nat_list_cmp_total, on_total, then_total}
use Rattle.envvars.proofs.TextLemmas.{bytes_eq-same}
use Rattle.audit_certificate.specs.Candidates.{Candidate}
use Rattle.audit_certificate.specs.RecordUses.{IsAmong}
use Rattle.audit_certificate.specs.Clashes.{is_other, do_clash}
use Rattle.audit_certificate.specs.Ranks.{competitors, comes_before, rank_order}
use Rattle.audit_certificate.specs.Certificates.{clashes_before, selected}
use Rattle.audit_certificate.specs.RankedModule.{ranked_module, ranked_order, AreRanked, clashes_among, with_next, taken}
use Rattle.audit_certificate.specs.declared.ranks.RankedModule.{RankedModule}
use Rattle.audit_certificate.specs.declared.module_uses.UsingModule.{UsingModule}
use Rattle.audit_certificate.specs.UsingModules.{candidate_in}
use Rattle.audit_certificate.proofs.UsedLemmas.{by_test, by_cases, among_left, among_right, among_either}
use Rattle.audit_certificate.proofs.Exact.{any_some}
use Rattle.audit_certificate.proofs.Members.{fails_each}
use Rattle.audit_certificate.proofs.Staying.{IsChoice, is_free, free_of, clash_before, before_either}
use Rattle.audit_certificate.proofs.Staying.{staying_chosen, one_choice}
use Rattle.audit_certificate.proofs.CertifiedOnes.{among_moved, among_contains}
use Rattle.audit_certificate.proofs.AnswerLemmas.{among_mapped, map_more}

itself : (m : Candidate) → is_other m m ≡ false
itself m = rw (bytes_eq-same m.name, bytes_eq-same m.path) refl

among_back : (ms ns : List Candidate) → IsPermutation ms ns → (m : Candidate) → IsAmong m ns → IsAmong m ms
among_back ms ns h m a = among_moved ns ms (IsPermutation-sym ms ns h) m a

-- none of the later ones comes before an earlier one
abbrev pub AreInOrder : List Candidate → List Candidate → Type 0
AreInOrder ms [] = Unit {0}
AreInOrder ms (m ∷ rest) = ((n : Candidate) → IsAmong n rest → comes_before ms n m ≡ false) × AreInOrder ms rest

abbrev AreAfter : List Candidate → List Candidate → List Candidate → Type 0
AreAfter ms done rest = (n m : Candidate) → IsAmong n done → IsAmong m rest → comes_before ms m n ≡ false

-- the next one is taken, or clashes
next_kept : (done : List Candidate) (m n : Candidate) → IsAmong n done → IsAmong n (with_next done m)
next_kept done m n a = by_test (clashes_among done m) _
    (λ t. rw t a)
    (λ f. rw f (among_left n done (m ∷ []) a))

next_either : (done : List Candidate) (m n : Candidate) → IsAmong n (with_next done m) → IsAmong n done ⊎ ((n ≡ m) × (clashes_among done m ≡ false))
next_either done m n a = by_test (clashes_among done m) _
    (λ t. inl (subst (λ (b : Bool). IsAmong n (cond b done (done ++ m ∷ []))) t a))
    (λ f. by_cases (among_either n done (m ∷ []) (subst (λ (b : Bool). IsAmong n (cond b done (done ++ m ∷ []))) f a))
    (λ k. inl k) (λ k. by_cases k (λ e. inr (e, f)) (λ no. absurd no)))

next_taken : (done : List Candidate) (m : Candidate) → clashes_among done m ≡ false → IsAmong m (with_next done m)
next_taken done m f = rw f (among_right m done (m ∷ []) (inl refl))

next_after : (ms done rest : List Candidate) (m : Candidate) → AreAfter ms done (m ∷ rest) → ((n : Candidate) → IsAmong n rest → comes_before ms n m ≡ false) → AreAfter ms (with_next done m) rest
next_after ms done rest m h k n l a b = by_cases (next_either done m n a)
    (λ i. h n l i (inr b))
    (λ p. subst (λ (x : Candidate). comes_before ms l x ≡ false) (sym p.0) (k l b))

taken_kept : (done rest : List Candidate) (n : Candidate) → IsAmong n done → IsAmong n (fold with_next done rest)
taken_kept done [] n a = a
taken_kept done (m ∷ rest) n a = taken_kept (with_next done m) rest n (next_kept done m n a)

-- whoever is free is taken
taken_free : (ms done rest : List Candidate) → AreAfter ms done rest → AreInOrder ms rest → (m : Candidate) → IsAmong m rest → is_free ms (fold with_next done rest) m ≡ true
    → IsAmong m (fold with_next done rest)
taken_free ms done [] h o m a k = absurd a
taken_free ms done (n ∷ rest) h o m (inr a) k = taken_free ms (with_next done n) rest (next_after ms done rest n h o.0) o.1 m a k
taken_free ms done (n ∷ rest) h o m (inl e) k = subst (λ (x : Candidate). IsAmong x (fold with_next (with_next done n) rest)) (sym e)
    (by_test (clashes_among done n) _
    (λ t. let s = any_some (λ l. is_other n l && do_clash n l) done t in
    let p = and_parts (is_other n s.0) (do_clash n s.0) s.2 in
    let first : comes_before ms s.0 n ≡ true = before_either ms n s.0 p.0 (h s.0 n s.1 (inl refl)) in
    let free : is_free ms (fold with_next (with_next done n) rest) n ≡ true = ap (is_free ms (fold with_next (with_next done n) rest)) (sym e) ∙ k in
    absurd (false≢true (sym (free_of ms (fold with_next (with_next done n) rest) s.0 n free (taken_kept (with_next done n) rest s.0 (next_kept done n s.0 s.1)))
    ∙ clash_before ms s.0 n first p.0 p.1)))
    (λ f. taken_kept (with_next done n) rest n (next_taken done n f)))

-- whoever is taken is free
abbrev Taken : List Candidate → List Candidate → List Candidate → Candidate → Type 0
Taken ms rest all m = IsAmong m rest × (is_free ms all m ≡ true)

abbrev Later : List Candidate → List Candidate → List Candidate → List Candidate → Type 0
Later ms done rest all = (k : Candidate) → IsAmong k all → IsAmong k done ⊎ Taken ms rest all k

none_clashes : (ms done rest all : List Candidate) (n : Candidate) → Later ms (with_next done n) rest all → ((k : Candidate) → IsAmong k rest → comes_before ms k n ≡ false)
    → clashes_among done n ≡ false → (k : Candidate) → IsAmong k all → clashes_before ms k n ≡ true → ⊥
none_clashes ms done rest all n later o f k i c =
    let p = and_parts (comes_before ms k n) (is_other n k && do_clash n k) c in
    by_cases (later k i)
    (λ j. by_cases (next_either done n k j)
    (λ d. false≢true (sym (fails_each (λ l. is_other n l && do_clash n l) done k f d) ∙ p.1))
    (λ q. false≢true (sym (itself n) ∙ (ap (is_other n) (sym q.0) ∙ (and_parts (is_other n k) (do_clash n k) p.1).0))))
    (λ t. false≢true (sym (o k t.0) ∙ p.0))

free_all : (ms all : List Candidate) (n : Candidate) → ((k : Candidate) → IsAmong k all → clashes_before ms k n ≡ true → ⊥) → is_free ms all n ≡ true
free_all ms all n h = by_test (list_any (λ k. clashes_before ms k n) all) _
    (λ t. let s = any_some (λ k. clashes_before ms k n) all t in absurd (h s.0 s.1 s.2))
    (λ g. ap not g)

taken_are : (ms done rest : List Candidate) → AreAfter ms done rest → AreInOrder ms rest → Later ms done rest (fold with_next done rest)
taken_are ms done [] h o m a = inl a
taken_are ms done (n ∷ rest) h o m a =
    let all = fold with_next (with_next done n) rest in
    let later : Later ms (with_next done n) rest all = taken_are ms (with_next done n) rest (next_after ms done rest n h o.0) o.1 in
    by_cases (later m a)
    (λ i. by_cases (next_either done n m i)
    (λ k. inl k)
    (λ p. inr (inl p.0, subst (λ (x : Candidate). is_free ms all x ≡ true) (sym p.0) (free_all ms all n (none_clashes ms done rest all n later o.0 p.1)))))
    (λ t. inr (inr t.0, t.1))

pub taken_stay : (ms all : List Candidate) → IsPermutation ms all → AreInOrder ms all → (m : Candidate) → IsAmong m (taken all) ↔ IsAmong m (selected ms)
taken_stay ms all same o m = (one_choice ms (taken all) (selected ms) chosen (staying_chosen ms) m, one_choice ms (selected ms) (taken all) (staying_chosen ms) chosen m)
  where
    chosen : IsChoice ms (taken all)
    chosen k = (
      λ a. by_cases (taken_are ms [] all (λ n l x y. absurd x) o k a)
          (λ no. absurd no)
          (λ t. (among_back ms all same k t.0, t.1)),
      λ p. taken_free ms [] all (λ n l x y. absurd x) o k (among_moved ms all same k p.0) p.1,
    )

-- ---- the order of the code

ranked_total : IsTotalOrder ranked_order
ranked_total = then_total (on_total (λ (r : RankedModule). r.competitors) nat_cmp_total)
    (then_total (on_total (λ (r : RankedModule). (ranked_module r).name) nat_list_cmp_total) (on_total (λ (r : RankedModule). (ranked_module r).path) nat_list_cmp_total))

pub rank_weak : IsStrictWeakOrder (λ (r s : RankedModule). is_lt (ranked_order r s))
rank_weak = ranks_by ranked_total (λ (r : RankedModule). r)

ranked_is : (ms : List Candidate) (r s : RankedModule) → r.competitors ≡ competitors ms (ranked_module r) → s.competitors ≡ competitors ms (ranked_module s)
    → ranked_order r s ≡ rank_order ms (ranked_module r) (ranked_module s)
ranked_is ms r s e f = λ i. ordering_then (nat_cmp (e i) (f i))
    (ordering_then (slice_cmp nat_cmp (ranked_module r).name (ranked_module s).name) (slice_cmp nat_cmp (ranked_module r).path (ranked_module s).path))

abbrev FarSorted : List RankedModule → Type 0
FarSorted rs = (i j : ℕ) (d : RankedModule) → i ≤ j → j < length rs → is_lt (ranked_order (get_or rs j d) (get_or rs i d)) ≡ false

far_order : (ms : List Candidate) (rs : List RankedModule) → AreRanked ms rs → FarSorted rs → AreInOrder ms (map ranked_module rs)
far_order ms [] h s = tt
far_order ms (r ∷ rs) h s = (
  λ n a.
      let k = among_mapped ranked_module rs n a in
      let c = among_contains rs k.0 k.1 in
      let later : is_lt (ranked_order k.0 r) ≡ false
      = subst (λ (x : RankedModule). is_lt (ranked_order x r) ≡ false) c.2 (s 0 (suc c.0) k.0 (omega arith) (omega (arith, c.1))) in
      subst (λ (x : Candidate). comes_before ms x (ranked_module r) ≡ false) (sym k.2)
      (ap is_lt (sym (ranked_is ms k.0 r (h k.0 (inr k.1)) (h r (inl refl)))) ∙ later),
  far_order ms rs (λ x a. h x (inr a)) (λ i j d l m. s (suc i) (suc j) d (omega (arith, l)) (omega (arith, m))),
)

pub ranks_in_order : (ms : List Candidate) (rs : List RankedModule) → AreRanked ms rs → IsSortedBy (λ (r s : RankedModule). is_lt (ranked_order r s)) rs → AreInOrder ms (map ranked_module rs)
ranks_in_order ms rs h s = far_order ms rs h (sorted_far (λ (r s : RankedModule). is_lt (ranked_order r s)) rank_weak rs s)

-- ---- as the code has them

pub ranks_turn : (old new : List RankedModule) (users : List UsingModule) (i : ℕ) (x : UsingModule) (r : RankedModule) → i < length users → x ≡ get_or users i x
    → new ≡ old ++ r ∷ [] → r.candidate.now ≡ x → map ranked_module old ≡ map candidate_in (take i users) → map ranked_module new ≡ map candidate_in (take (i + 1) users)
ranks_turn old new users i x r l is e q h =
    ap (map ranked_module) e
    ∙ (map-append ranked_module old (r ∷ [])
    ∙ ((λ k. h k ++ candidate_in (q k) ∷ []) ∙ sym (map_more candidate_in users i x l is)))

pub ranked_turn : (ms : List Candidate) (old new : List RankedModule) (r : RankedModule) → new ≡ old ++ r ∷ [] → AreRanked ms old → r.competitors ≡ competitors ms (ranked_module r) → AreRanked ms new
ranked_turn ms old new r e h k x a = by_cases (among_either x old (r ∷ []) (subst (IsAmong x) e a))
    (λ b. h x b)
    (λ b. by_cases b (λ q. subst (λ (y : RankedModule). y.competitors ≡ competitors ms (ranked_module y)) (sym q) k) (λ no. absurd no))

pub ranked_moved : (ms : List Candidate) (old new : List RankedModule) → IsPermutation old new → AreRanked ms old → AreRanked ms new
ranked_moved ms old new same h x a = h x (among_moved new old (IsPermutation-sym old new same) x a)
