-- The names of a folder that may be those of folders.
use Rattle.std.proofs.Common.{◌≡◌, ◌⊎◌, true, false, List, Option, Some, sym, ap, ◌∙◌, subst, inl, inr, ℕ, ◌<◌, length}
use Rattle.std.proofs.Common.{get_or, map}
use Rattle.std.proofs.lemmas.Bool.{cases_Bool}
use Rattle.modulename.specs.ModuleName.{Text}
use Rattle.filetree.specs.Agreement.{Files, Listings}
use Rattle.search.specs.DefaultVersions.{DefaultFileResult}
use Rattle.search.specs.Listed.{ListingEntry}
use Rattle.search.specs.BelowFolder.{folder_path, names_in, IsUnder, IsInside, AreAmong, HasAllFolders}
use Rattle.search.specs.Walks.{AreListingEntries}
use Rattle.search.proofs.VersionLemmas.{has}
use Rattle.search.proofs.UnderLemmas.{none_under, inside, outside}
use Rattle.search.proofs.NameLemmas.{has_middle}
use Rattle.search.proofs.RowLemmas.{rows_same}
use Rattle.search.proofs.WalkLemmas.{split_at}

-- a folder that is read from a list of those among some names
pub read_among : {X : Type 0} (view : X → Text) (items : List X) (name : X) (i : ℕ) → i < length items → name ≡ get_or items i name
    → (given names : List Text) → AreAmong given names → AreAmong (map view items) given → has (view name) names ≡ true
read_among view items name i within is given names named among =
    named (view name) (among (view name) (ap (has (view name)) (split_at view name items i within is) ∙ has_middle (view name) _ _))

module _ (results : Text → Text → Option DefaultFileResult → Type 0) (files : Files) (folders : Listings) (texts : List Text) (dir : Text) where
  wider : (names below : List Text) → AreAmong below names → (v : Text) → IsInside files folders texts dir names below v → IsInside files folders texts dir names names v
  wider names below among v (inl q) = inl q
  wider names below among v (inr q) = inr (q.0, among q.0 q.1, q.2)

  narrower : (names below : List Text) → HasAllFolders folders dir names below → (v : Text) → IsInside files folders texts dir names names v → IsInside files folders texts dir names below v
  narrower names below others v (inl q) = inl q
  narrower names below others v (inr (n, h, u)) = at (cases_Bool (has n below))
    where
      at : (has n below ≡ true) ⊎ (has n below ≡ false) → IsInside files folders texts dir names below v
      at (inl q) = inr (n, q, u)
      at (inr q) = absurd (none_under files folders texts dir (Some n) v (others n h q) u)

  -- the files of a folder, and what is below the folders in it, are what is below it
  pub rows_ended : (prefix : Option Text) (entries : List Text) → folders (folder_path dir prefix) ≡ Some entries → (names below : List Text) → names ≡ names_in texts prefix entries
      → AreAmong below names → HasAllFolders folders dir names below
      → (listing_entries : List ListingEntry) → AreListingEntries results files folders dir
      (IsInside files folders texts dir names below) listing_entries
      → AreListingEntries results files folders dir (IsUnder files folders texts dir prefix) listing_entries
  rows_ended prefix entries listed names below named among others listing_entries a =
      rows_same results files folders dir (IsInside files folders texts dir names below) (IsUnder files folders texts dir prefix)
      (λ v u. outside files folders texts dir prefix entries listed v (subst (λ ns. IsInside files folders texts dir ns ns v) named (wider names below among v u)))
      (λ v u. narrower names below others v (subst (λ ns. IsInside files folders texts dir ns ns v) (sym named) (inside files folders texts dir prefix entries listed v u)))
      listing_entries a
