-- What the walk through the folders below a directory of MODULEPATH lists, and what it looks at. For this crate's own
-- contracts alone.
use Rattle.std.specs.Prelude.{◌≡◌, ◌↔◌, true, List, filter, Option, Some, None, bytes_eq}
use Rattle.std.specs.List.{list_any, AllByRecursion}
use Rattle.modulename.specs.ModuleName.{Text}
use Rattle.filetree.specs.Agreement.{Files, Listings}
use Rattle.search.specs.Single.{is_single}
use Rattle.search.specs.DefaultVersions.{DefaultFileResult}
use Rattle.search.specs.Selections.{is_sought}
use Rattle.search.specs.BelowFolder.{name_below, is_selected_module}
use Rattle.search.specs.Listed.{IsNamed, ListingEntry, names_of}
use Rattle.search.specs.Looked.{IsReached, LooksForNamed, LooksForListing}
use Rattle.search.specs.Marks.{is_marked_by}

-- the module is marked exactly where a default file names it
abbrev pub IsMarkRight : (Text → Text → Option DefaultFileResult → Type 0) → Files → Listings → Text → ListingEntry
    → Type 0
IsMarkRight results files folders dir listing_entry =
    (listing_entry.1 ≡ true) ↔ IsNamed results files folders dir listing_entry.0

-- the full name of the default that the default files of a folder name, if they name one
abbrev pub IsDefaultOf : (Text → Text → Option DefaultFileResult → Type 0) → Files → Listings → Text → Option Text
    → Option Text
    → Type 0
IsDefaultOf results files folders dir prefix default = (entry : Text) → is_single entry ≡ true
    → (is_marked_by default (name_below prefix entry) ≡ true) ↔ IsNamed results files folders dir
    (name_below prefix entry)

-- those of these names that are selected modules, with their marks
pub record AreEntriesOfFiles (results : Text → Text → Option DefaultFileResult → Type 0) (files : Files)
    (folders : Listings) (texts : List Text) (dir : Text)
    (names : List Text) (listing_entries : List ListingEntry) : Type 0 where
  pub named : names_of listing_entries ≡ filter (is_selected_module files texts dir) names
  pub marks : AllByRecursion (IsMarkRight results files folders dir) listing_entries

-- the modules whose names have the property, with their marks: no other is there, and none is missing
pub record AreListingEntries (results : Text → Text → Option DefaultFileResult → Type 0) (files : Files)
    (folders : Listings) (dir : Text)
    (Under : Text → Type 0) (listing_entries : List ListingEntry) : Type 0 where
  pub sound : AllByRecursion (λ listing_entry. Under listing_entry.0
      × IsMarkRight results files folders dir listing_entry) listing_entries
  pub complete : (name : Text) → Under name → list_any (bytes_eq name) (names_of listing_entries) ≡ true

-- a path that is looked at for the default of a folder; for the directory itself there is none
abbrev pub LooksForDefault : (Text → Text → Option DefaultFileResult → Type 0) → Files → Listings → Text
    → Option Text → Text → Type 0
LooksForDefault results files folders dir None at = ⊥
LooksForDefault results files folders dir (Some prefix) at = LooksForNamed results files folders dir prefix at

-- the directory itself, or a sought folder that is reached from it by entries
abbrev pub IsFolderOf : Listings → List Text → Text → Option Text → Type 0
IsFolderOf folders texts dir None = Unit {0}
IsFolderOf folders texts dir (Some prefix) = IsReached folders dir prefix × (is_sought texts prefix ≡ true)

-- a path that the listing of such a folder looks at
abbrev pub LooksFromFolder : (Text → Text → Option DefaultFileResult → Type 0) → Files → Listings → List Text → Text
    → Option Text → Text → Type 0
LooksFromFolder results files folders texts dir prefix at = IsFolderOf folders texts dir prefix
    → LooksForListing results files folders texts dir at
