-- A walk through the folders in a folder.
use Rattle.std.proofs.Common.{◌≡◌, ◌≢◌, ◌≤◌, ◌<◌, ◌+◌, ◌-◌, ℕ, true, false, List, [], ◌∷◌, ◌++◌, length, get_or, map}
use Rattle.std.proofs.Common.{take, drop, Option, Some, sym, ap, ◌∙◌, subst, inl, inr, ⊎_elim, length-append, arith}
use Rattle.std.proofs.lemmas.List.{drop_more, map-append, take-append-drop, take_more}
use Rattle.modulename.specs.ModuleName.{Text, parts}
use Rattle.filetree.specs.Agreement.{Files, Listings}
use Rattle.search.specs.DefaultVersions.{DefaultFileResult}
use Rattle.search.specs.Listed.{ListingEntry}
use Rattle.search.proofs.VersionLemmas.{has}
use Rattle.search.specs.BelowFolder.{parts_of, names_in, is_selected_module, IsUnder, IsInside, AreAmong}
use Rattle.search.specs.Walks.{AreEntriesOfFiles, AreListingEntries}
use Rattle.search.proofs.PartLemmas.{parts_of-below}
use Rattle.search.proofs.UnderLemmas.{name_from}
use Rattle.search.proofs.NameLemmas.{has_left, has_middle, has_last}
use Rattle.search.proofs.RowLemmas.{rows_same, rows_append, rows_of_files}

-- an element that is read from a list: those before it, and those after it
module _ {X : Type 0} (view : X → Text) (x : X) (xs : List X) (i : ℕ) (within : i < length xs) (is : x ≡ get_or xs i x) where
  pub split_at : map view xs ≡ map view (take i xs) ++ view x ∷ map view (drop (i + 1) xs)
  split_at =
      ap (map view) (sym (take-append-drop i xs)) ∙ map-append view (take i xs) (drop i xs)
      ∙ ap (λ rest. map view (take i xs) ++ map view rest) (drop_more xs i x within) ∙ ap (λ y. map view (take i xs) ++ view y ∷ map view (drop (i + 1) xs)) (sym is)

  pub one_more : map view (take (i + 1) xs) ≡ map view (take i xs) ++ view x ∷ []
  one_more = ap (map view) (take_more xs i x within) ∙ map-append view (take i xs) (get_or xs i x ∷ []) ∙ ap (λ y. map view (take i xs) ++ view y ∷ []) (sym is)

-- one level down
pub deeper : (texts : List Text) (prefix : Option Text) (entries names : List Text) (n : Text) (levels : ℕ) → names ≡ names_in texts prefix entries → has n names ≡ true
    → 4 ≤ length (parts_of prefix) + levels → levels ≢ 0 → 4 ≤ length (parts n) + (levels - 1)
deeper texts prefix entries names n levels named there deep some =
    let r = name_from texts prefix entries n (ap (has n) (sym named) ∙ there) in
    let made : parts n ≡ parts_of prefix ++ r.0 ∷ [] = ap parts r.1 ∙ parts_of-below prefix r.0 r.3 in
    let e : length (parts n) ≡ length (parts_of prefix ++ r.0 ∷ []) = ap length made in
    let l = length-append (parts_of prefix) (r.0 ∷ []) in
    omega arith

module _ (results : Text → Text → Option DefaultFileResult → Type 0) (files : Files) (folders : Listings) (texts : List Text) (dir : Text) where
  pub rows_begun : (names all : List Text) (listing_entries : List ListingEntry) → AreAmong names all → AreAmong all names → AreEntriesOfFiles results files folders texts dir names listing_entries
      → AreListingEntries results files folders dir (IsInside files folders texts dir all []) listing_entries
  rows_begun names all listing_entries into from a =
      rows_same results files folders dir (λ v. (has v names ≡ true) × (is_selected_module files texts dir v ≡ true)) (IsInside files folders texts dir all [])
      (λ v u. inl (into v u.0, u.1))
      (λ v u. ⊎_elim (λ q. (from v q.0, q.1)) (λ q. absurd (let f : false ≡ true = q.1 in cc)) u) listing_entries (rows_of_files results files folders dir texts names listing_entries a)

  pub rows_more : (names done : List Text) (name : Text) (listing_entries more : List ListingEntry)
      → AreListingEntries results files folders dir (IsInside files folders texts dir names done) listing_entries
      → AreListingEntries results files folders dir (IsUnder files folders texts dir (Some name)) more
      → AreListingEntries results files folders dir (IsInside files folders texts dir names (done ++ name ∷ []))
      (listing_entries ++ more)
  rows_more names done name listing_entries more a b =
      rows_append results files folders dir (IsInside files folders texts dir names done) (IsUnder files folders texts dir (Some name)) (IsInside files folders texts dir names (done ++ name ∷ []))
      (λ v u. ⊎_elim (λ q. inl q) (λ q. inr (q.0, has_left q.0 done (name ∷ []) q.1, q.2)) u)
      (λ v u. inr (name, has_middle name done [], u))
      (λ v u. ⊎_elim (λ q. inl (inl q)) (λ q. ⊎_elim (λ r. inl (inr (q.0, r, q.2))) (λ r. inr (subst (λ n. IsUnder files folders texts dir (Some n) v) r q.2)) (has_last q.0 name done q.1)) u)
      listing_entries more a b
