-- The selected modules of the listing of all modules are the listing of those that are selected.
use Rattle.std.proofs.Common.{◌≡◌, Bool, true, false, ◌&&◌, List, [], ◌∷◌, map, filter, Option, refl, sym, ap, ◌∙◌}
use Rattle.std.proofs.Common.{subst, ⊎_elim}
use Rattle.std.specs.Prelude.{bytes_eq, if◌then◌else◌}
use Rattle.std.specs.List.Sorted.{IsStrictlySortedBy}
use Rattle.std.proofs.lemmas.Bool.{or_cases, or_left, or_right, and_parts}
use Rattle.std.proofs.lemmas.List.Kept.{IsStrictlySortedBy-filter}
use Rattle.modulename.specs.ModuleName.{Text}
use Rattle.modulename.specs.Versions.{version_order}
use Rattle.filetree.specs.Agreement.{Files, Listings}
use Rattle.filetree.specs.Modulefiles.{directories}
use Rattle.search.specs.DefaultVersions.{DefaultFileResult}
use Rattle.search.specs.Selections.{is_selected}
use Rattle.search.specs.Listed.{ListingEntry, names_of, is_marked, IsListing, Listing, selected_of, AreListings, Listed}
use Rattle.search.proofs.VersionLemmas.{has, same, in_filter, filter_has}

abbrev kept : (Text → Bool) → List ListingEntry → List ListingEntry
kept p rows = filter (λ row. p row.0) rows

named_step : (t : Bool) (row : ListingEntry) (rows : List ListingEntry) (names : List Text) → names_of rows ≡ names → names_of (if t then row ∷ rows else rows) ≡ (if t then row.0 ∷ names else names)
named_step true row rows names e = ap (λ xs. row.0 ∷ xs) e
named_step false row rows names e = e

names_kept : (p : Text → Bool) (rows : List ListingEntry) → names_of (kept p rows) ≡ filter p (names_of rows)
names_kept p [] = refl
names_kept p (row ∷ rows) = named_step (p row.0) row (kept p rows) (filter p (names_of rows)) (names_kept p rows)

marked_step : (t : Bool) (p : Text → Bool) (v : Text) (row : ListingEntry) (some rows : List ListingEntry) → p row.0 ≡ t → is_marked v (if t then row ∷ some else some) ≡ true
    → (is_marked v some ≡ true → (is_marked v rows ≡ true) × (p v ≡ true)) → (is_marked v (row ∷ rows) ≡ true) × (p v ≡ true)
marked_step true p v row some rows e h more =
    ⊎_elim (λ q. (or_left (bytes_eq v row.0 && row.1) (is_marked v rows) q, ap p (same v row.0 (and_parts (bytes_eq v row.0) row.1 q).0) ∙ e))
    (λ q. let m = more q in (or_right (bytes_eq v row.0 && row.1) (is_marked v rows) m.0, m.1)) (or_cases (bytes_eq v row.0 && row.1) (is_marked v some) h)
marked_step false p v row some rows e h more = let m = more h in (or_right (bytes_eq v row.0 && row.1) (is_marked v rows) m.0, m.1)

marked_in : (p : Text → Bool) (v : Text) (rows : List ListingEntry) → is_marked v (kept p rows) ≡ true → (is_marked v rows ≡ true) × (p v ≡ true)
marked_in p v [] h = absurd (cc)
marked_in p v (row ∷ rows) h = marked_step (p row.0) p v row (kept p rows) rows refl h (marked_in p v rows)

kept_step : (t : Bool) (p : Text → Bool) (v : Text) (row : ListingEntry) (some rows : List ListingEntry) → p row.0 ≡ t → is_marked v (row ∷ rows) ≡ true → p v ≡ true
    → (is_marked v rows ≡ true → is_marked v some ≡ true) → is_marked v (if t then row ∷ some else some) ≡ true
kept_step true p v row some rows e h k more =
    ⊎_elim (λ q. or_left (bytes_eq v row.0 && row.1) (is_marked v some) q) (λ q. or_right (bytes_eq v row.0 && row.1) (is_marked v some) (more q))
    (or_cases (bytes_eq v row.0 && row.1) (is_marked v rows) h)
kept_step false p v row some rows e h k more =
    ⊎_elim (λ q. absurd (let f : true ≡ false = sym k ∙ ap p (same v row.0 (and_parts (bytes_eq v row.0) row.1 q).0) ∙ e in cc)) more
    (or_cases (bytes_eq v row.0 && row.1) (is_marked v rows) h)

marked_kept : (p : Text → Bool) (v : Text) (rows : List ListingEntry) → is_marked v rows ≡ true → p v ≡ true → is_marked v (kept p rows) ≡ true
marked_kept p v [] h k = absurd (cc)
marked_kept p v (row ∷ rows) h k = kept_step (p row.0) p v row (kept p rows) rows refl h k (λ q. marked_kept p v rows q k)

module _ (results : Text → Text → Option DefaultFileResult → Type 0) (files : Files) (listings : Listings) (texts : List Text) where
  selected_listing : (dir : Text) (rows : List ListingEntry) → IsListing results files listings [] dir rows → IsListing results files listings texts dir (kept (is_selected texts) rows)
  selected_listing dir rows l = record {
    order = subst (IsStrictlySortedBy version_order) (sym (names_kept (is_selected texts) rows)) (IsStrictlySortedBy-filter version_order (is_selected texts) (names_of rows) l.order);
    names = λ v. (
      λ h. let p = in_filter (is_selected texts) v (names_of rows) (ap (has v) (sym (names_kept (is_selected texts) rows)) ∙ h) in (((l.names v).0 p.0).0, p.1),
      λ b. ap (has v) (names_kept (is_selected texts) rows) ∙ filter_has (is_selected texts) v (names_of rows) ((l.names v).1 (b.0, refl)) b.1,
    );
    marks = λ v. (
      λ h. let p = marked_in (is_selected texts) v rows h in let q = (l.marks v).0 p.0 in ((q.0.0, p.1), q.1),
      λ b. marked_kept (is_selected texts) v rows ((l.marks v).1 ((b.0.0, refl), b.1)) b.0.1,
    );
  }

  selected_listings : (dirs : List Text) (ls : List Listing) → AreListings results files listings [] dirs ls → AreListings results files listings texts dirs (map (selected_of texts) ls)
  selected_listings [] [] h = tt
  selected_listings [] (l ∷ ls) h = absurd h
  selected_listings (dir ∷ dirs) [] h = absurd h
  selected_listings (dir ∷ dirs) (l ∷ ls) h = (h.0, selected_listing dir l.1 h.1, selected_listings dirs ls h.2)

pub selected_listed : (results : Text → Text → Option DefaultFileResult → Type 0) (files : Files) (listings : Listings)
    (texts : List Text) (modulepath : Text) (ls : List Listing) → Listed results files listings [] modulepath ls
    → Listed results files listings texts modulepath (map (selected_of texts) ls)
selected_listed results files listings texts modulepath ls h = selected_listings results files listings texts (directories modulepath) ls h
