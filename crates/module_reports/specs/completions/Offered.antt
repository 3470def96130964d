-- What is offered for completion, with the modules that can be loaded (module(1)).
use Rattle.std.specs.Prelude.{◌≡◌, ◌⊎◌, ◌<◌, ◌≤◌, ◌==◌, ◌||◌, ℕ, Bool, true, false, List, [], length}
use Rattle.std.specs.Prelude.{Option}
use Rattle.std.specs.List.{flat_map, list_any}
use Rattle.message.specs.Messages.{Text}
use Rattle.envvars.specs.Environment.{Environment}
use Rattle.filetree.specs.Agreement.{Files, Listings, InEachPair}
use Rattle.filetree.specs.hiding.Hidden.{AllFailed}
use Rattle.filetree.specs.Modulefiles.{directories}
use Rattle.search.specs.DefaultFiles.{DefaultFileResult}
use Rattle.search.specs.Listed.{Listing, names_of}
use Rattle.requests.specs.Steps.{modulepath}
use Rattle.module_reports.specs.listings.Available.{ListedWithout}
use Rattle.module_reports.specs.completions.Begun.{AreForWithout}
use Rattle.module_reports.specs.completions.Kinds.{is_available}
use Rattle.module_reports.specs.completions.Names.{offered}
use Rattle.module_reports.specs.declared.completions.kind.NameKind.{NameKind}

-- the byte is a quote, or takes the meaning of the next one away: ', " or \
abbrev pub is_quote : ℕ → Bool
is_quote b = (b == 39) || ((b == 34) || (b == 92))

-- the word means another text than it is typed
abbrev pub is_quoted : Text → Bool
is_quoted word = list_any is_quote word

-- the names in listings, in turn
abbrev pub names_in : List Listing → List Text
names_in listings = flat_map (λ listing. names_of listing.1) listings

-- The names leave out what stands at some paths, at each of which the device has failed. The numbers are those of its
-- failures before and after: in between it has failed if there are such paths, and these are no more than its failures.
pub record LeavesOut (has_failed : Text → Bool) (before now : ℕ) (unreadable : List Text) : Type 0 where
  pub failed : AllFailed has_failed unreadable
  pub cause : (unreadable ≡ []) ⊎ (before < now)
  pub counted : length unreadable ≤ now

-- These are the names of all modules along MODULEPATH, in the order of `avail`, in each pair of maps that agrees, apart
-- from what can't be read.
abbrev pub AreListed : (Text → Text → Option DefaultFileResult → Type 0) → (Files → Listings → Type 0)
    → (Text → Bool) → ℕ → ℕ → Environment → List Text → Type 0
AreListed results agrees has_failed before now e names =
    (unreadable : List Text) × LeavesOut has_failed before now unreadable
    × InEachPair agrees (λ files folders. (listings : List Listing)
    × ListedWithout results unreadable files folders [] (modulepath e) listings × (names ≡ names_in listings))

-- These are the names along MODULEPATH for a word, in each pair of maps that agrees, apart from what can't be read.
abbrev pub AreNamed : (Files → Listings → Type 0) → (Text → Bool) → ℕ → ℕ → Environment → Text → List Text → Type 0
AreNamed agrees has_failed before now e word names =
    (unreadable : List Text) × LeavesOut has_failed before now unreadable
    × InEachPair agrees (λ files folders. AreForWithout unreadable folders (directories (modulepath e)) word names)

-- The names of modules for a word: all, if the word means another text than it is typed, since the shell then takes those
-- that begin with what it means.
abbrev pub AreForWord : Bool → (Text → Text → Option DefaultFileResult → Type 0) → (Files → Listings → Type 0)
    → (Text → Bool) → ℕ → ℕ → Environment → Text → List Text → Type 0
AreForWord true results agrees has_failed before now e word names = AreListed results agrees has_failed before now e names
AreForWord false results agrees has_failed before now e word names = AreNamed agrees has_failed before now e word names

-- These are the names of the kinds. A kind that asks for modules that can be loaded has those for the word.
abbrev pub Offers : (Text → Text → Option DefaultFileResult → Type 0) → (Files → Listings → Type 0) → (Text → Bool)
    → ℕ → ℕ → Environment → List NameKind → Text → List Text → Type 0
Offers results agrees has_failed before now e kinds word names =
    (available : List Text)
    × (list_any is_available kinds ≡ true
    → AreForWord (is_quoted word) results agrees has_failed before now e word available)
    × (names ≡ offered e available kinds)
