-- The modules among the files in a folder.
use Rattle.std.proofs.Common.{◌≡◌, ◌↔◌, true, List, [], ◌∷◌, map, filter, Option, refl, sym, ap, ◌∙◌, subst}
use Rattle.std.specs.Prelude.{bytes_eq}
use Rattle.std.specs.List.{AllByRecursion}
use Rattle.std.proofs.lemmas.Bool.{or_left, or_right}
use Rattle.std.proofs.lemmas.Slice.Eq.{bytes_eq-Decides}
use Rattle.modulename.specs.ModuleName.{Text}
use Rattle.filetree.specs.Agreement.{Files, Listings}
use Rattle.search.specs.Single.{is_single}
use Rattle.search.specs.DefaultVersions.{DefaultFileResult}
use Rattle.search.specs.Listed.{IsNamed, names_of}
use Rattle.search.proofs.VersionLemmas.{has, in_filter}
use Rattle.search.specs.Marks.{is_marked_by}
use Rattle.search.specs.ListingEntries.{listing_entry_of}
use Rattle.search.specs.BelowFolder.{name_below, names_in, is_selected_module, AreAmong}
use Rattle.search.specs.Walks.{IsMarkRight, IsDefaultOf, AreEntriesOfFiles}
use Rattle.search.proofs.UnderLemmas.{name_from}

names_of-listing_entries : (default : Option Text) (modules : List Text) → names_of (map (listing_entry_of default) modules) ≡ modules
names_of-listing_entries default [] = refl
names_of-listing_entries default (m ∷ ms) = ap (λ x. m ∷ x) (names_of-listing_entries default ms)

module _ (results : Text → Text → Option DefaultFileResult → Type 0) (files : Files) (folders : Listings) (texts : List Text) (dir : Text) (prefix : Option Text) (default : Option Text) where
  marks_made : IsDefaultOf results files folders dir prefix default → (modules : List Text)
      → ((v : Text) → has v modules ≡ true → (e : Text) × (v ≡ name_below prefix e) × (is_single e ≡ true))
      → AllByRecursion (IsMarkRight results files folders dir) (map (listing_entry_of default) modules)
  marks_made right [] f = tt
  marks_made right (m ∷ ms) f =
      let r = f m (or_left (bytes_eq m m) (has m ms) ((bytes_eq-Decides m m).1 refl)) in (
        subst (λ v. (is_marked_by default v ≡ true) ↔ IsNamed results files folders dir v) (sym r.1) (right r.0 r.2),
        marks_made right ms (λ v h. f v (or_right (bytes_eq v m) (has v ms) h)),
      )

  pub files_made : (entries names modules : List Text) → AreAmong names (names_in texts prefix entries)
      → modules ≡ filter (is_selected_module files texts dir) names → IsDefaultOf results files folders dir prefix default
      → AreEntriesOfFiles results files folders texts dir names (map (listing_entry_of default) modules)
  files_made entries names modules named made right = record {
    named = names_of-listing_entries default modules ∙ made;
    marks = marks_made right modules (λ v h.
        let p = in_filter (is_selected_module files texts dir) v names (ap (has v) (sym made) ∙ h) in
        let q = name_from texts prefix entries v (named v p.0) in (q.0, q.1, q.3));
  }
