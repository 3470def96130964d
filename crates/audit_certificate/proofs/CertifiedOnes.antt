-- The certified modules: those of the definition, which no others meet, together and no more, in whatever order.
use Rattle.std.proofs.Common.{arith, zero, suc, ◌≡◌, ◌↔◌, inl, inr, ℕ, ◌+◌, Bool, true, cond, not, ◌&&◌, List, [], ◌∷◌}
use Rattle.std.proofs.Common.{filter, refl, sym, ap, ◌∙◌}
use Rattle.std.specs.List.{Contains, list_any, flat_map, sum_by, count_by}
use Rattle.std.specs.List.Sorted.{IsPermutation}
use Rattle.std.proofs.Common.{nat_cmp}
use Rattle.std.specs.Ordering.{ordering_then, is_lt}
use Rattle.std.specs.Cmp.Lexicographic.{slice_cmp}
use Rattle.std.proofs.lemmas.Bool.{false≢true, and_parts}
use Rattle.std.proofs.lemmas.List.Sums.{sum_by-cons, sum_by-append}
use Rattle.std.proofs.lemmas.List.Sorted.{Contains-permutation, sum_by-IsPermutation, IsPermutation-sym}
use Rattle.audit_certificate.specs.Candidates.{Candidate}
use Rattle.audit_certificate.specs.RecordUses.{IsAmong}
use Rattle.audit_certificate.specs.Steps.{is_consistent}
use Rattle.audit_certificate.specs.Users.{ModuleUse, uses_of_module, uses_of_modules}
use Rattle.audit_certificate.specs.Ranks.{is_competitor, competitors, rank_order, comes_before}
use Rattle.audit_certificate.specs.Clashes.{is_other, do_clash}
use Rattle.audit_certificate.specs.Certificates.{clashes_before, certified, HasPlace, IsCertified}
use Rattle.audit_certificate.specs.Laws.{CertifiedAreExact, CertifiedAreUnique, CertifiedInAnyOrder, CertifiedDontClash}
use Rattle.audit_certificate.specs.Laws.{CertifiedAreMost}
use Rattle.audit_certificate.proofs.UsedLemmas.{by_test}
use Rattle.audit_certificate.proofs.Exact.{any_some, filtered, in_filter, consistent, to_consistent, clashes, to_clashes}
use Rattle.audit_certificate.proofs.Staying.{IsChoice, is_free, free_of, clash_before, of_staying, to_staying, staying_apart}
use Rattle.audit_certificate.proofs.Staying.{staying_most, staying_chosen, one_choice}

abbrev steps : List Candidate → List Candidate
steps ms = filter is_consistent ms

-- places beside others, by relation and by test

place_free : (ms cs : List Candidate) (m : Candidate) → HasPlace ms cs m → IsAmong m (steps ms) × (is_free (steps ms) cs m ≡ true)
place_free ms cs m h = (
  in_filter is_consistent ms m h.listed (to_consistent m h.consistent),
  by_test (list_any (λ k. clashes_before (steps ms) k m) cs) _
      (λ t. let s = any_some (λ k. clashes_before (steps ms) k m) cs t in
      let p = and_parts (comes_before (steps ms) s.0 m) (is_other m s.0 && do_clash m s.0) s.2 in
      let q = and_parts (is_other m s.0) (do_clash m s.0) p.1 in
      let k = clashes m s.0 q.1 in
      absurd (h.no_clash s.0 k.variable k.one k.other s.1 p.0 q.0 k.clash))
      (λ f. ap not f),
)

free_place : (ms cs : List Candidate) (m : Candidate) → IsAmong m (steps ms) → is_free (steps ms) cs m ≡ true → HasPlace ms cs m
free_place ms cs m a h =
    let f = filtered is_consistent ms m a in
    record {
      listed = f.0;
      consistent = consistent m f.1;
      no_clash = λ n v x y i b o c. false≢true (sym (free_of (steps ms) cs n m h i) ∙ clash_before (steps ms) n m b o (to_clashes m n v x y c));
    }

-- certified modules

pub is_certified : (ms : List Candidate) (m : Candidate) → IsAmong m (certified ms) → IsCertified ms m
is_certified ms m h = let p = of_staying (steps ms) m h in free_place ms (certified ms) m p.0 p.1

pub to_certified : (ms : List Candidate) (m : Candidate) → IsCertified ms m → IsAmong m (certified ms)
to_certified ms m c = let p = place_free ms (certified ms) m c in to_staying (steps ms) m p.0 p.1

pub certified_are_exact : CertifiedAreExact
certified_are_exact ms m = (is_certified ms m, to_certified ms m)

pub certified_apart : CertifiedDontClash
certified_apart ms m n v x y c d o k = staying_apart (steps ms) m n (to_certified ms m c) (to_certified ms n d) o (to_clashes m n v x y k)

pub certified_most : CertifiedAreMost
certified_most ms m a s h = is_certified ms m (staying_most (steps ms) m (in_filter is_consistent ms m a (to_consistent m s))
    (λ n b o c. let k = clashes m n c in h n k.variable k.one k.other (is_certified ms n b) o k.clash))

-- no others

as_choice : (ms cs : List Candidate) → ((m : Candidate) → IsAmong m cs ↔ HasPlace ms cs m) → IsChoice (steps ms) cs
as_choice ms cs h m = (λ a. place_free ms cs m ((h m).0 a), λ p. (h m).1 (free_place ms cs m p.0 p.1))

pub certified_are_unique : CertifiedAreUnique
certified_are_unique ms cs h m = (
  λ a. is_certified ms m (one_choice (steps ms) cs (certified ms) (as_choice ms cs h) (staying_chosen (steps ms)) m a),
  λ c. one_choice (steps ms) (certified ms) cs (staying_chosen (steps ms)) (as_choice ms cs h) m (to_certified ms m c),
)

-- ---- in whatever order

count_flat : {X Y : Type 0} (p : Y → Bool) (f : X → List Y) (xs : List X) → count_by p (flat_map f xs) ≡ sum_by (λ x. count_by p (f x)) xs
count_flat p f [] = refl
count_flat p f (x ∷ xs) =
    sum_by-append (λ y. cond (p y) 1 0) (f x) (flat_map f xs)
    ∙ (ap (λ n. count_by p (f x) + n) (count_flat p f xs) ∙ sym (sum_by-cons (λ z. count_by p (f z)) x xs))

sum_kept : {X : Type 0} (g : X → ℕ) (p : X → Bool) (xs : List X) → sum_by g (filter p xs) ≡ sum_by (λ x. cond (p x) (g x) 0) xs
sum_kept g p [] = refl
sum_kept g p (x ∷ xs) =
    by_test (p x) _
    (λ t. rw t (sum_by-cons g x (filter p xs) ∙ ap (λ n. g x + n) (sum_kept g p xs)))
    (λ f. rw f (omega (arith, sum_kept g p xs)))
    ∙ sym (sum_by-cons (λ z. cond (p z) (g z) 0) x xs)

sum_alike : {X : Type 0} (f g : X → ℕ) (xs : List X) → ((x : X) → f x ≡ g x) → sum_by f xs ≡ sum_by g xs
sum_alike f g [] h = refl
sum_alike f g (x ∷ xs) h = sum_by-cons f x xs ∙ ((λ i. h x i + sum_alike f g xs h i) ∙ sym (sum_by-cons g x xs))

module _ (ms ns : List Candidate) (same : IsPermutation ms ns) where
  same_count : (x : ModuleUse) → count_by (is_competitor x) (uses_of_modules (steps ms)) ≡ count_by (is_competitor x) (uses_of_modules (steps ns))
  same_count x =
      count_flat (is_competitor x) uses_of_module (steps ms)
      ∙ (sum_kept (λ m. count_by (is_competitor x) (uses_of_module m)) is_consistent ms
      ∙ (sym (sum_by-IsPermutation (λ m. cond (is_consistent m) (count_by (is_competitor x) (uses_of_module m)) 0) ms ns same)
      ∙ (sym (sum_kept (λ m. count_by (is_competitor x) (uses_of_module m)) is_consistent ns)
      ∙ sym (count_flat (is_competitor x) uses_of_module (steps ns)))))

  same_competitors : (m : Candidate) → competitors (steps ms) m ≡ competitors (steps ns) m
  same_competitors m = sum_alike (λ x. count_by (is_competitor x) (uses_of_modules (steps ms))) (λ x. count_by (is_competitor x) (uses_of_modules (steps ns))) (uses_of_module m) same_count

  same_order : (k m : Candidate) → rank_order (steps ms) k m ≡ rank_order (steps ns) k m
  same_order k m = λ i. ordering_then (nat_cmp (same_competitors k i) (same_competitors m i)) (ordering_then (slice_cmp nat_cmp k.name m.name) (slice_cmp nat_cmp k.path m.path))

pub among_contains : {X : Type 0} (xs : List X) (x : X) → IsAmong x xs → Contains xs x
among_contains [] x a = absurd a
among_contains (y ∷ ys) x (inl e) = (0, omega arith, sym e)
among_contains (y ∷ ys) x (inr a) = let k = among_contains ys x a in (suc k.0, omega (arith, k.1), k.2)

contains_among : {X : Type 0} (xs : List X) (x : X) → Contains xs x → IsAmong x xs
contains_among [] x (k, l, e) = absurd (omega (arith, l))
contains_among (y ∷ ys) x (zero, l, e) = inl (sym e)
contains_among (y ∷ ys) x (suc k, l, e) = inr (contains_among ys x (k, omega (arith, l), e))

pub among_moved : {X : Type 0} (ms ns : List X) → IsPermutation ms ns → (m : X) → IsAmong m ms → IsAmong m ns
among_moved ms ns h m a = contains_among ns m (Contains-permutation ms ns m h (among_contains ms m a))

place_moved : (ms ns cs : List Candidate) → IsPermutation ms ns → (m : Candidate) → HasPlace ms cs m → HasPlace ns cs m
place_moved ms ns cs h m p = record {
  listed = among_moved ms ns h m p.listed;
  consistent = p.consistent;
  no_clash = λ n v x y a b o c. p.no_clash n v x y a (ap is_lt (same_order ms ns h n m) ∙ b) o c;
}

pub certified_in_any_order : CertifiedInAnyOrder
certified_in_any_order ms ns h m c =
    (certified_are_unique ns (certified ms)
    (λ n. (λ a. place_moved ms ns (certified ms) h n (is_certified ms n a), λ p. to_certified ms n (place_moved ns ms (certified ms) (IsPermutation-sym ms ns h) n p))) m).0
    (to_certified ms m c)
