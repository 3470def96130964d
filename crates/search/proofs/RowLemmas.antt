-- Modules of a listing, put together.
use Rattle.std.proofs.Common.{◌≡◌, ◌⊎◌, true, List, [], ◌∷◌, ◌++◌, Option, refl, sym, ap, ◌∙◌, ⊎_elim}
use Rattle.std.specs.Prelude.{bytes_eq}
use Rattle.std.specs.List.{AllByRecursion}
use Rattle.std.proofs.lemmas.Bool.{or_left, or_right}
use Rattle.modulename.specs.ModuleName.{Text}
use Rattle.filetree.specs.Agreement.{Files, Listings}
use Rattle.search.specs.DefaultVersions.{DefaultFileResult}
use Rattle.search.specs.Listed.{ListingEntry, names_of}
use Rattle.search.proofs.VersionLemmas.{has, in_filter, filter_has, itself}
use Rattle.search.specs.BelowFolder.{is_selected_module}
use Rattle.search.proofs.NameLemmas.{has_left, has_right}
use Rattle.search.specs.Walks.{IsMarkRight, AreEntriesOfFiles, AreListingEntries}

names_of-append : (listing_entries more : List ListingEntry) → names_of (listing_entries ++ more) ≡ names_of listing_entries ++ names_of more
names_of-append [] more = refl
names_of-append (r ∷ listing_entries) more = ap (λ x. r.0 ∷ x) (names_of-append listing_entries more)

all_append : (P : ListingEntry → Type 0) (listing_entries more : List ListingEntry) → AllByRecursion P listing_entries → AllByRecursion P more → AllByRecursion P (listing_entries ++ more)
all_append P [] more a b = b
all_append P (r ∷ listing_entries) more a b = (a.0, all_append P listing_entries more a.1 b)

all_weaker : (P Q : ListingEntry → Type 0) → ((r : ListingEntry) → P r → Q r) → (listing_entries : List ListingEntry) → AllByRecursion P listing_entries → AllByRecursion Q listing_entries
all_weaker P Q f [] a = tt
all_weaker P Q f (r ∷ listing_entries) a = (f r a.0, all_weaker P Q f listing_entries a.1)

-- what holds of each name holds of each module with its mark
all_named : (P : Text → Type 0) (M : ListingEntry → Type 0) (listing_entries : List ListingEntry)
    → ((v : Text) → has v (names_of listing_entries) ≡ true → P v) → AllByRecursion M listing_entries
    → AllByRecursion (λ r. P r.0 × M r) listing_entries
all_named P M [] f a = tt
all_named P M (r ∷ listing_entries) f a = (
  (f r.0 (or_left (bytes_eq r.0 r.0) (has r.0 (names_of listing_entries)) (itself r.0)), a.0),
  all_named P M listing_entries (λ v h. f v (or_right (bytes_eq v r.0) (has v (names_of listing_entries)) h)) a.1,
)

module _ (results : Text → Text → Option DefaultFileResult → Type 0) (files : Files) (folders : Listings) (dir : Text) where
  pub rows_none : (Under : Text → Type 0) → ((v : Text) → Under v → ⊥) → AreListingEntries results files folders dir Under []
  rows_none Under none = record { sound = tt; complete = λ v u. absurd (none v u) }

  pub rows_same : (Under Other : Text → Type 0) → ((v : Text) → Under v → Other v) → ((v : Text) → Other v → Under v) → (listing_entries : List ListingEntry)
      → AreListingEntries results files folders dir Under listing_entries → AreListingEntries results files folders dir Other listing_entries
  rows_same Under Other into from listing_entries a = record {
    sound = all_weaker _ _ (λ r p. (into r.0 p.0, p.1)) listing_entries a.sound;
    complete = λ v u. a.complete v (from v u);
  }

  pub rows_append : (Under Other Both : Text → Type 0) → ((v : Text) → Under v → Both v)
      → ((v : Text) → Other v → Both v) → ((v : Text) → Both v → Under v ⊎ Other v)
      → (listing_entries more : List ListingEntry)
      → AreListingEntries results files folders dir Under listing_entries
      → AreListingEntries results files folders dir Other more
      → AreListingEntries results files folders dir Both (listing_entries ++ more)
  rows_append Under Other Both first second either listing_entries more a b = record {
    sound = all_append _ listing_entries more (all_weaker _ _ (λ r p. (first r.0 p.0, p.1)) listing_entries a.sound) (all_weaker _ _ (λ r p. (second r.0 p.0, p.1)) more b.sound);
    complete = λ v u. ap (has v) (names_of-append listing_entries more)
        ∙ ⊎_elim (λ q. has_left v (names_of listing_entries) (names_of more) (a.complete v q)) (λ q. has_right v (names_of listing_entries) (names_of more) (b.complete v q)) (either v u);
  }

  pub rows_of_files : (texts names : List Text) (listing_entries : List ListingEntry) → AreEntriesOfFiles results files folders texts dir names listing_entries
      → AreListingEntries results files folders dir (λ v. (has v names ≡ true) × (is_selected_module files texts dir v ≡ true)) listing_entries
  rows_of_files texts names listing_entries a = record {
    sound = all_named (λ v. (has v names ≡ true) × (is_selected_module files texts dir v ≡ true)) (IsMarkRight results files folders dir) listing_entries
        (λ v h. in_filter (is_selected_module files texts dir) v names (ap (has v) (sym a.named) ∙ h)) a.marks;
    complete = λ v u. ap (has v) a.named ∙ filter_has (is_selected_module files texts dir) v names u.0 u.1;
  }
