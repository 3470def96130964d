-- The modules along a MODULEPATH whose names are selected by texts, or all (module(1), avail): for each directory those
-- below it, each once, in version order of their full names, marked where they are defaults.
use Rattle.std.specs.Prelude.{◌≡◌, ◌↔◌, Bool, true, ◌&&◌, List, [], ◌∷◌, ◌++◌, map, filter, bytes_eq, Option}
use Rattle.std.specs.Prelude.{Some, Ok}
use Rattle.std.specs.List.{list_any}
use Rattle.std.specs.List.Sorted.{IsStrictlySortedBy}
use Rattle.modulename.specs.ModuleName.{Text, parts}
use Rattle.filetree.specs.Agreement.{Files, Listings}
use Rattle.filetree.specs.Modulefiles.{directories, path_of}
use Rattle.modulename.specs.Versions.{version_order}
use Rattle.search.specs.DefaultVersions.{DefaultFileResult}
use Rattle.search.specs.Found.{NamedDefault}
use Rattle.search.specs.Selections.{is_selected}
pub use Rattle.search.specs.BelowFolder.{ReachesThrough, IsBelow, IsSelectedBelow}

-- A default file of the module's folder names it. Where one that is read has a fault, no module of the folder is named.
pub record IsNamed (results : Text → Text → Option DefaultFileResult → Type 0) (files : Files) (listings : Listings)
    (dir name : Text)
    : Type 0 where
  pub folder : Text
  pub version : Text
  pub joined : name ≡ path_of folder version
  pub last : parts name ≡ parts folder ++ version ∷ []
  pub named : NamedDefault results files listings dir folder (Ok (Some version))

-- a module's full name, and whether it is marked as a default
abbrev pub ListingEntry : Type 0
ListingEntry = Text × Bool

-- the names of a listing
abbrev pub names_of : List ListingEntry → List Text
names_of listing_entries = map (λ listing_entry. listing_entry.0) listing_entries

-- the name is in a listing, marked as a default
abbrev pub is_marked : Text → List ListingEntry → Bool
is_marked name listing_entries = list_any
    (λ listing_entry. bytes_eq name listing_entry.0 && listing_entry.1) listing_entries

-- the listing of a directory: its selected modules, and no others, each once, in version order, with their marks
pub record IsListing (results : Text → Text → Option DefaultFileResult → Type 0) (files : Files)
    (listings : Listings) (texts : List Text) (dir : Text)
    (listing_entries : List ListingEntry) : Type 0 where
  pub order : IsStrictlySortedBy version_order (names_of listing_entries)
  pub names : (name : Text) →
      (list_any (bytes_eq name) (names_of listing_entries) ≡ true) ↔ IsSelectedBelow files listings texts dir name
  pub marks : (name : Text)
      → (is_marked name listing_entries ≡ true) ↔ (IsSelectedBelow files listings texts dir name
      × IsNamed results files listings dir name)

-- a directory with its modules
abbrev pub Listing : Type 0
Listing = Text × List ListingEntry

-- the selected modules of a listing
abbrev pub selected_of : List Text → Listing → Listing
selected_of texts listing = (listing.0, filter (λ listing_entry. is_selected texts listing_entry.0) listing.1)

-- the listings of some directories, in turn
abbrev pub AreListings : (Text → Text → Option DefaultFileResult → Type 0) → Files → Listings → List Text → List Text
    → List Listing → Type 0
AreListings results files listings texts [] [] = Unit {0}
AreListings results files listings texts [] (l ∷ ls) = ⊥
AreListings results files listings texts (dir ∷ dirs) [] = ⊥
AreListings results files listings texts (dir ∷ dirs) (l ∷ ls) =
    (l.0 ≡ dir) × IsListing results files listings texts dir l.1 × AreListings results files listings texts dirs ls

-- each directory of the MODULEPATH in turn, a repeated one again
abbrev pub Listed : (Text → Text → Option DefaultFileResult → Type 0) → Files → Listings → List Text → Text
    → List Listing → Type 0
Listed results files listings texts modulepath ls = AreListings results files listings texts (directories modulepath) ls
