-- The modules of a directory, sorted and each once, are its listing.
use Rattle.std.proofs.Common.{◌≡◌, Bool, true, false, ◌&&◌, ◌||◌, List, [], ◌∷◌, ◌++◌, map, Option, None, Ordering}
use Rattle.std.proofs.Common.{Less, Equal, Greater, refl, sym, ap, ◌∙◌, subst, ⊎_elim}
use Rattle.std.specs.Prelude.{bytes_eq}
use Rattle.std.specs.Cmp.{IsEquivalence}
use Rattle.std.specs.List.{list_any, AllByRecursion, dedup}
use Rattle.std.specs.List.Sorted.{IsPermutation, IsSortedBy, IsStrictlySortedBy}
use Rattle.std.specs.Ordering.{is_eq}
use Rattle.std.proofs.lemmas.Bool.{or_cases, or_left, or_right, and_parts, and_from}
use Rattle.std.proofs.lemmas.Cmp.{on_total, on_equiv, nat_list_eq_equiv, tied_itself}
use Rattle.std.proofs.lemmas.List.Elements.{All-from_recursion, recursion_from_All}
use Rattle.std.proofs.lemmas.List.Filters.{All-dedup}
use Rattle.std.proofs.lemmas.List.Folds.{Any-from_list_any, list_any-from_Any}
use Rattle.std.proofs.lemmas.List.Kept.{Any-dedup, IsStrictlySortedBy-dedup}
use Rattle.std.proofs.lemmas.List.Sorted.{All-permutation, Contains-permutation}
use Rattle.std.proofs.lemmas.Slice.Eq.{bytes_eq-Decides}
use Rattle.modulename.specs.ModuleName.{Text, parts}
use Rattle.modulename.specs.Versions.{version_order}
use Rattle.modulename.proofs.OrderLemmas.{total, equal}
use Rattle.filetree.specs.Agreement.{Files, Listings}
use Rattle.search.specs.DefaultVersions.{DefaultFileResult}
use Rattle.search.specs.Listed as listed
use Rattle.search.specs.BelowFolder.{ReachesThrough, IsSelectedBelow, IsUnder}
use Rattle.search.specs.Listed.{IsNamed, IsListing, names_of, is_marked}
use Rattle.search.proofs.VersionLemmas.{has, same}
use Rattle.search.specs.Walks.{IsMarkRight, AreListingEntries}
use Rattle.search.specs.ListingEntries.{listing_entry_view, name_of, goes_before, is_same_name}
use Rattle.search.specs.declared.listing_entries.ListingEntry.{ListingEntry}

alike : (b c : Bool) → (b ≡ true → c ≡ true) → (c ≡ true → b ≡ true) → b ≡ c
alike true c f g = sym (f refl)
alike false true f g = g refl
alike false false f g = refl

equal_from : (o : Ordering) → is_eq o ≡ true → o ≡ Equal
equal_from Less h = absurd (cc)
equal_from Equal h = refl
equal_from Greater h = absurd (cc)

-- two modules tie where their names are the same
ties : (x y : ListingEntry) → is_same_name x y ≡ is_eq (version_order (name_of x) (name_of y))
ties x y =
    alike (bytes_eq (name_of x) (name_of y)) (is_eq (version_order (name_of x) (name_of y)))
    (λ h. ap (λ n. is_eq (version_order (name_of x) n)) (sym (same (name_of x) (name_of y) h)) ∙ ap is_eq (tied_itself total (name_of x)))
    (λ h. (bytes_eq-Decides (name_of x) (name_of y)).1 (equal (name_of x) (name_of y) (equal_from (version_order (name_of x) (name_of y)) h)))

abbrev row_order : ListingEntry → ListingEntry → Ordering
row_order x y = version_order (name_of x) (name_of y)

before_names : (n : Text) (listing_entries : List ListingEntry)
    → AllByRecursion (λ y. version_order n (name_of y) ≡ Less) listing_entries
    → AllByRecursion (λ m. version_order n m ≡ Less) (names_of (map listing_entry_view listing_entries))
before_names n [] a = tt
before_names n (r ∷ listing_entries) a = (a.0, before_names n listing_entries a.1)

strict_names : (listing_entries : List ListingEntry) → IsStrictlySortedBy row_order listing_entries → IsStrictlySortedBy version_order (names_of (map listing_entry_view listing_entries))
unfolding IsStrictlySortedBy
strict_names [] s = tt
strict_names (r ∷ listing_entries) s = (before_names (name_of r) listing_entries s.0, strict_names listing_entries s.1)

unmap : (Q : listed.ListingEntry → Type 0) (listing_entries : List ListingEntry)
    → AllByRecursion Q (map listing_entry_view listing_entries)
    → AllByRecursion (λ r. Q (listing_entry_view r)) listing_entries
unmap Q [] a = tt
unmap Q (r ∷ listing_entries) a = (a.0, unmap Q listing_entries a.1)

remap : (Q : listed.ListingEntry → Type 0) (listing_entries : List ListingEntry)
    → AllByRecursion (λ r. Q (listing_entry_view r)) listing_entries
    → AllByRecursion Q (map listing_entry_view listing_entries)
remap Q [] a = tt
remap Q (r ∷ listing_entries) a = (a.0, remap Q listing_entries a.1)

any_name : (v : Text) (listing_entries : List ListingEntry) → has v (names_of (map listing_entry_view listing_entries)) ≡ list_any (λ r. bytes_eq v (name_of r)) listing_entries
any_name v [] = refl
any_name v (r ∷ listing_entries) = ap (λ b. bytes_eq v (name_of r) || b) (any_name v listing_entries)

same_name_equiv : IsEquivalence is_same_name
same_name_equiv = on_equiv name_of nat_list_eq_equiv

kept_name : (v : Text) (first sorted : List ListingEntry) → IsPermutation first sorted
    → has v (names_of (map listing_entry_view first)) ≡ true
    → has v (names_of (map listing_entry_view (dedup is_same_name sorted))) ≡ true
kept_name v first sorted moved h =
    let (k, x, lt, at, q) = Any-from_list_any (λ r. bytes_eq v (name_of r)) first (sym (any_name v first) ∙ h) in
    let (j, y, jlt, jat, e) = Any-dedup same_name_equiv sorted x (Contains-permutation first sorted x moved (k, lt, at)) in
    let n : v ≡ name_of y = same v (name_of x) q ∙ same (name_of x) (name_of y) e in
    any_name v (dedup is_same_name sorted)
    ∙ list_any-from_Any (λ r. bytes_eq v (name_of r)) (dedup is_same_name sorted) (j, y, jlt, jat, (bytes_eq-Decides v (name_of y)).1 n)

module _ (results : Text → Text → Option DefaultFileResult → Type 0) (files : Files) (folders : Listings) (texts : List Text) (dir : Text) where
  abbrev Right : listed.ListingEntry → Type 0
  Right listing_entry = IsUnder files folders texts dir None listing_entry.0 × IsMarkRight results files folders dir listing_entry

  below_from : (v : Text) → IsUnder files folders texts dir None v → IsSelectedBelow files folders texts dir v
  below_from v u = (record { spelled = u.spelled; reaches = subst (λ r. ReachesThrough folders dir (parts r)) (sym u.joined) u.reaches; file = u.file }, u.selected)

  under_from : (v : Text) → IsSelectedBelow files folders texts dir v → IsUnder files folders texts dir None v
  under_from v b = record { rest = v; joined = refl; spelled = b.0.spelled; reaches = b.0.reaches; file = b.0.file; selected = b.1 }

  named_under : (v : Text) (listing_entries : List listed.ListingEntry) → AllByRecursion Right listing_entries → has v (names_of listing_entries) ≡ true → IsUnder files folders texts dir None v
  named_under v [] a h = absurd (cc)
  named_under v (r ∷ listing_entries) a h =
      ⊎_elim (λ q. subst (IsUnder files folders texts dir None) (sym (same v r.0 q)) a.0.0) (λ q. named_under v listing_entries a.1 q) (or_cases (bytes_eq v r.0) (has v (names_of listing_entries)) h)

  marked_named : (v : Text) (listing_entries : List listed.ListingEntry) → AllByRecursion Right listing_entries
      → is_marked v listing_entries ≡ true → IsUnder files folders texts dir None v × IsNamed results files folders dir v
  marked_named v [] a h = absurd (cc)
  marked_named v (r ∷ listing_entries) a h =
      ⊎_elim (λ q. let p = and_parts (bytes_eq v r.0) r.1 q in
      let e : r.0 ≡ v = sym (same v r.0 p.0) in
      (subst (IsUnder files folders texts dir None) e a.0.0, subst (IsNamed results files folders dir) e (a.0.1.0 p.1)))
      (λ q. marked_named v listing_entries a.1 q) (or_cases (bytes_eq v r.0 && r.1) (is_marked v listing_entries) h)

  named_marked : (v : Text) (listing_entries : List listed.ListingEntry) → AllByRecursion Right listing_entries
      → has v (names_of listing_entries) ≡ true → IsNamed results files folders dir v
      → is_marked v listing_entries ≡ true
  named_marked v [] a h n = absurd (cc)
  named_marked v (r ∷ listing_entries) a h n =
      ⊎_elim (λ q. or_left (bytes_eq v r.0 && r.1) (is_marked v listing_entries) (and_from (bytes_eq v r.0) r.1 q (a.0.1.1 (subst (IsNamed results files folders dir) (same v r.0 q) n))))
      (λ q. or_right (bytes_eq v r.0 && r.1) (is_marked v listing_entries) (named_marked v listing_entries a.1 q n)) (or_cases (bytes_eq v r.0) (has v (names_of listing_entries)) h)

  sound_kept : (first sorted : List ListingEntry) → IsPermutation first sorted
      → AllByRecursion Right (map listing_entry_view first)
      → AllByRecursion Right (map listing_entry_view (dedup is_same_name sorted))
  sound_kept first sorted moved a =
      let P : ListingEntry → Type 0 = λ r. Right (listing_entry_view r) in
      let all = All-permutation P first sorted moved (All-from_recursion P first (unmap Right first a)) in
      remap Right (dedup is_same_name sorted) (recursion_from_All P (dedup is_same_name sorted) (All-dedup is_same_name P sorted all))

  pub listing_is : (first sorted last : List ListingEntry) (more : List listed.ListingEntry)
      → map listing_entry_view first ≡ [] ++ more → AreListingEntries results files folders dir
      (IsUnder files folders texts dir None) more
      → IsPermutation first sorted → IsSortedBy goes_before sorted → last ≡ dedup is_same_name sorted → IsListing results files folders texts dir (map listing_entry_view last)
  listing_is first sorted last more made listing_entries moved up kept = subst (λ rs. IsListing results files folders texts dir (map listing_entry_view rs)) (sym kept) listing
    where
      sound : AllByRecursion Right (map listing_entry_view (dedup is_same_name sorted))
      sound = sound_kept first sorted moved (subst (AllByRecursion Right) (sym made) listing_entries.sound)

      complete : (v : Text) → IsSelectedBelow files folders texts dir v → has v (names_of (map listing_entry_view (dedup is_same_name sorted))) ≡ true
      complete v b = kept_name v first sorted moved (ap (λ rs. has v (names_of rs)) made ∙ listing_entries.complete v (under_from v b))

      listing : IsListing results files folders texts dir (map listing_entry_view (dedup is_same_name sorted))
      listing = record {
        order = strict_names (dedup is_same_name sorted) (IsStrictlySortedBy-dedup {R = row_order} (on_total name_of total) ties sorted up);
        names = λ v. (λ h. below_from v (named_under v (map listing_entry_view (dedup is_same_name sorted)) sound h), λ b. complete v b);
        marks = λ v. (
          λ h. let p = marked_named v (map listing_entry_view (dedup is_same_name sorted)) sound h in (below_from v p.0, p.1),
          λ p. named_marked v (map listing_entry_view (dedup is_same_name sorted)) sound (complete v p.0) p.1,
        );
      }
