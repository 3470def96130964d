-- Whether the search finds a module for one of some names (module(1), is-avail).
use Rattle.std.specs.Prelude.{◌≡◌, ◌⊎◌, ◌<◌, ◌≤◌, ℕ, Bool, true, false, List, [], ◌∷◌, length, Option, Ok, Err}
use Rattle.message.specs.Messages.{Text}
use Rattle.filetree.specs.Agreement.{Files, Listings, InEachPair}
use Rattle.filetree.specs.hiding.Hidden.{AllFailed, without}
use Rattle.search.specs.DefaultFiles.{DefaultFileResult}
use Rattle.search.specs.Looked.{LooksAt}
use Rattle.search.specs.Reasons.{FindReason}
use Rattle.lookup.specs.Located.{Located, LocatedModule}

-- the search finds a module that the name means; or it finds none, for a reason
abbrev pub IsFound : (Text → Text → Option DefaultFileResult → Type 0) → Files → Listings → Text → Text → Bool → Type 0
IsFound results files folders modulepath name true =
    (found : LocatedModule) × Located results files folders modulepath name (Ok found)
IsFound results files folders modulepath name false =
    (reason : FindReason) × Located results files folders modulepath name (Err reason)

-- It finds one for the first of the names, or for one of the others. Without names it finds none.
abbrev pub IsOneFound : (Text → Text → Option DefaultFileResult → Type 0) → Files → Listings → Text → List Text → Bool
    → Type 0
IsOneFound results files folders modulepath [] answer = answer ≡ false
IsOneFound results files folders modulepath (name ∷ names) answer =
    (IsFound results files folders modulepath name true × (answer ≡ true))
    ⊎ (IsFound results files folders modulepath name false × IsOneFound results files folders modulepath names answer)

-- the paths that are looked at for names in turn: those of the search for the first, and those for the others where it
-- means none
abbrev pub SearchesLookAt : (Text → Text → Option DefaultFileResult → Type 0) → Files → Listings → Text → List Text
    → Text → Type 0
SearchesLookAt results files folders modulepath [] at = ⊥
SearchesLookAt results files folders modulepath (name ∷ names) at =
    LooksAt results files folders modulepath name at
    ⊎ (IsFound results files folders modulepath name false
    × SearchesLookAt results files folders modulepath names at)

-- A module is found for one of the names, or for none, elsewhere than at some paths, in each pair of maps that agrees. At
-- each of these the device has failed, and they are no more than its failures.
pub record FindsWithout (results : Text → Text → Option DefaultFileResult → Type 0)
    (agrees : Files → Listings → Type 0) (has_failed : Text → Bool) (now : ℕ) (modulepath : Text) (names : List Text)
    (answer : Bool) : Type 0 where
  pub unreadable : List Text
  pub failed : AllFailed has_failed unreadable
  pub counted : length unreadable ≤ now
  pub finds : InEachPair agrees (λ files folders.
      IsOneFound results (without unreadable files) (without unreadable folders) modulepath names answer)

-- The same, where there are such paths only if a module is found, and if the device has failed more often than before.
pub record FindsReadable (results : Text → Text → Option DefaultFileResult → Type 0)
    (agrees : Files → Listings → Type 0) (has_failed : Text → Bool) (before now : ℕ) (modulepath : Text)
    (names : List Text) (answer : Bool) : Type 0 where
  pub finds : FindsWithout results agrees has_failed now modulepath names answer
  pub found : (finds.unreadable ≡ []) ⊎ (answer ≡ true)
  pub cause : (finds.unreadable ≡ []) ⊎ (before < now)

-- No module is found so for one of the names, in each pair of maps that agrees; or the device has failed a thousand times.
abbrev pub FindsNothingReadable : (Text → Text → Option DefaultFileResult → Type 0) → (Files → Listings → Type 0)
    → (Text → Bool) → ℕ → Text → List Text → Type 0
FindsNothingReadable results agrees has_failed now modulepath names =
    FindsWithout results agrees has_failed now modulepath names false ⊎ (1000 ≤ now)
