-- Sets of paths.
use Rattle.std.proofs.Common.{◌≡◌, ◌⊎◌, inl, inr, Bool, true, false, cond, List, [], ◌∷◌, map, string_bytes, String}
use Rattle.std.proofs.Common.{Global, refl, sym, ap, ◌∙◌, subst}
use Rattle.std.specs.Prelude.{◌↔◌, bytes_eq}
use Rattle.std.specs.BTreeSet.{BTreeSet, contains_text}
use Rattle.std.specs.Cmp.Lexicographic.{slice_cmp}
use Rattle.std.specs.Ordering.{nat_cmp, is_eq}
use Rattle.std.specs.List.{list_any, AllByRecursion}
use Rattle.std.specs.List.Sorted.{IsStrictlySortedBy}
use Rattle.std.specs.String.{string_cmp}
use Rattle.std.proofs.lemmas.Bool.{or_cases, or_left, or_right, false≢true}
use Rattle.std.proofs.lemmas.Map.Text.{is_eq-slice_cmp}
use Rattle.std.proofs.lemmas.Slice.Eq.{bytes_eq-Decides}
use Rattle.std.specs.declared.cmp.Ordering.TheVariants.{Less}
use Rattle.modulename.specs.ModuleName.{Text}
use Rattle.audit_certificate.specs.RecordUses.{IsAmong}
use Rattle.audit_site.specs.FilesBelow.{Has, Adds}

pub by_cases : {A B C : Type 0} → A ⊎ B → (A → C) → (B → C) → C
by_cases (inl a) f g = f a
by_cases (inr b) f g = g b

-- ---- one path

put_by : (new old : BTreeSet (String Global)) (own path q : Text) (t : Bool) → bytes_eq own q ≡ t → own ≡ path → contains_text new q ≡ cond t true (contains_text old q) → Has new q ↔ (Has old q ⊎ (q ≡ path))
put_by new old own path q true e same h = ((λ n. inr (sym ((bytes_eq-Decides own q).0 e) ∙ same)), (λ s. h))
put_by new old own path q false e same h = (
  (λ n. inl (sym h ∙ n)),
  (λ s. by_cases s (λ o. h ∙ o) (λ k. absurd (false≢true (sym e ∙ (bytes_eq-Decides own q).1 (same ∙ sym k))))),
)

pub put_one : (new old : BTreeSet (String Global)) (own path q : Text) → own ≡ path → contains_text new q ≡ cond (bytes_eq own q) true (contains_text old q) → Has new q ↔ (Has old q ⊎ (q ≡ path))
put_one new old own path q same h = put_by new old own path q (bytes_eq own q) refl same h

-- ---- what is added

pub adds_none : (old : BTreeSet (String Global)) (P : Text → Type 0) → ((q : Text) → P q → ⊥) → Adds old old P
adds_none old P none q = ((λ h. inl h), (λ s. by_cases s (λ h. h) (λ p. absurd (none q p))))

pub adds_same : (old new : BTreeSet (String Global)) (P Q : Text → Type 0) → ((q : Text) → P q ↔ Q q) → Adds old new P → Adds old new Q
adds_same old new P Q same h q = (
  (λ n. by_cases ((h q).0 n) (λ o. inl o) (λ p. inr ((same q).0 p))),
  (λ s. by_cases s (λ o. (h q).1 (inl o)) (λ r. (h q).1 (inr ((same q).1 r)))),
)

pub adds_more : (a b c : BTreeSet (String Global)) (P Q R : Text → Type 0) → ((q : Text) → R q ↔ (P q ⊎ Q q)) → Adds a b P → Adds b c Q → Adds a c R
adds_more a b c P Q R either h k q = (
  (λ n. by_cases ((k q).0 n) (λ m. by_cases ((h q).0 m) (λ o. inl o) (λ p. inr ((either q).1 (inl p)))) (λ w. inr ((either q).1 (inr w)))),
  (λ s. by_cases s (λ o. (k q).1 (inl ((h q).1 (inl o)))) (λ r. by_cases ((either q).0 r) (λ p. (k q).1 (inl ((h q).1 (inr p)))) (λ w. (k q).1 (inr w)))),
)

-- ---- lists of paths

pub sorted_bytes : (ks : List (String Global)) → IsStrictlySortedBy string_cmp ks → IsStrictlySortedBy (slice_cmp nat_cmp) (map string_bytes ks)
unfolding IsStrictlySortedBy
sorted_bytes [] h = h
sorted_bytes (k ∷ ks) h = (below ks h.0, sorted_bytes ks h.1)
  where
    below : (xs : List (String Global)) → AllByRecursion (λ y. string_cmp k y ≡ Less) xs → AllByRecursion (λ y. slice_cmp nat_cmp (string_bytes k) y ≡ Less) (map string_bytes xs)
    below [] a = a
    below (x ∷ xs) a = (a.0, below xs a.1)

is_same : (q : Text) (k : String Global) → is_eq (slice_cmp nat_cmp q (string_bytes k)) ≡ true → q ≡ string_bytes k
is_same q k h = (bytes_eq-Decides q (string_bytes k)).0 (sym (is_eq-slice_cmp q (string_bytes k)) ∙ h)

same_is : (q : Text) (k : String Global) → q ≡ string_bytes k → is_eq (slice_cmp nat_cmp q (string_bytes k)) ≡ true
same_is q k e = is_eq-slice_cmp q (string_bytes k) ∙ (bytes_eq-Decides q (string_bytes k)).1 e

among_keys : (q : Text) (ks : List (String Global)) → list_any (λ k. is_eq (slice_cmp nat_cmp q (string_bytes k))) ks ≡ true → IsAmong q (map string_bytes ks)
among_keys q [] h = absurd (false≢true h)
among_keys q (k ∷ ks) h = by_cases (or_cases (is_eq (slice_cmp nat_cmp q (string_bytes k))) (list_any (λ x. is_eq (slice_cmp nat_cmp q (string_bytes x))) ks) h)
    (λ e. inl (is_same q k e)) (λ t. inr (among_keys q ks t))

has_keys : (q : Text) (ks : List (String Global)) → IsAmong q (map string_bytes ks) → list_any (λ k. is_eq (slice_cmp nat_cmp q (string_bytes k))) ks ≡ true
has_keys q [] a = absurd a
has_keys q (k ∷ ks) (inl e) = or_left (is_eq (slice_cmp nat_cmp q (string_bytes k))) (list_any (λ x. is_eq (slice_cmp nat_cmp q (string_bytes x))) ks) (same_is q k e)
has_keys q (k ∷ ks) (inr a) = or_right (is_eq (slice_cmp nat_cmp q (string_bytes k))) (list_any (λ x. is_eq (slice_cmp nat_cmp q (string_bytes x))) ks) (has_keys q ks a)

-- the keys of a set are what it has
pub keys_are : (found : BTreeSet (String Global)) (paths : List (String Global)) → paths ≡ found.keys → (q : Text) → IsAmong q (map string_bytes paths) ↔ Has found q
keys_are found paths e q = (
  (λ a. has_keys q found.keys (subst (λ (ks : List (String Global)). IsAmong q (map string_bytes ks)) e a)),
  (λ h. subst (λ (ks : List (String Global)). IsAmong q (map string_bytes ks)) (sym e) (among_keys q found.keys h)),
)

-- an empty set has nothing
pub nothing_in : (found : BTreeSet (String Global)) (q : Text) → found.keys ≡ [] → Has found q → ⊥
nothing_in found q e h = false≢true (sym (ap (λ (ks : List (String Global)). list_any (λ k. is_eq (slice_cmp nat_cmp q (string_bytes k))) ks) e) ∙ h)
