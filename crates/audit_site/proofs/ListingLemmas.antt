-- The listing of one directory.
use Rattle.std.proofs.Common.{◌≡◌, List, [], ◌∷◌, ◌++◌, map, Option, refl, ap, subst}
use Rattle.envvars.specs.Texts.{Text}
use Rattle.filetree.specs.Agreement.{Files, Listings}
use Rattle.search.specs.DefaultFiles.{DefaultFileResult}
use Rattle.search.specs.Listed as listed
use Rattle.search.specs.Listed.{IsListing, AreListings}
use Rattle.search.specs.ListingEntries.{listing_entry_view, name_of}
use Rattle.search.specs.Listings.{listing_view}
use Rattle.search.specs.declared.listing_entries.ListingEntry.{ListingEntry}
use Rattle.search.specs.declared.listings.DirectoryListing.{DirectoryListing}

-- the names of the code's entries
pub names_seen : (xs : List ListingEntry) → listed.names_of (map listing_entry_view xs) ≡ map name_of xs
names_seen [] = refl
names_seen (x ∷ xs) = ap (λ (l : List Text). name_of x ∷ l) (names_seen xs)

module _ (results : Text → Text → Option DefaultFileResult → Type 0) (files : Files) (listings : Listings) (dir : Text) where
  no_more : (xs : List DirectoryListing) (x : DirectoryListing) → AreListings results files listings [] [] (map listing_view (xs ++ x ∷ [])) → ⊥
  no_more [] x h = h
  no_more (y ∷ xs) x h = h

  only_one : (xs : List DirectoryListing) (x : DirectoryListing)
      → AreListings results files listings [] (dir ∷ []) (map listing_view (xs ++ x ∷ []))
      → IsListing results files listings [] dir (listing_view x).1
  only_one [] x h = h.1
  only_one (y ∷ xs) x h = absurd (no_more xs x h.2)

  -- where there is one directory, the last listing is its own
  pub last_listing : (dirs : List Text) (all xs : List DirectoryListing) (x : DirectoryListing) → dirs ≡ dir ∷ [] → all ≡ xs ++ x ∷ [] → AreListings results files listings [] dirs (map listing_view all)
      → IsListing results files listings [] dir (listing_view x).1
  last_listing dirs all xs x one parts h =
      only_one xs x (subst (λ (ls : List DirectoryListing). AreListings results files listings [] (dir ∷ []) (map listing_view ls)) parts
      (subst (λ (ds : List Text). AreListings results files listings [] ds (map listing_view all)) one h))
