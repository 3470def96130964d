-- The report of `avail` over a tree (module(1)): what can't be read is left out, and named.
use Rattle.std.specs.Prelude.{◌≡◌, ◌⊎◌, ◌<◌, ◌≤◌, ℕ, Bool, List, [], length, Option, Ok}
use Rattle.message.specs.Messages.{Text}
use Rattle.envvars.specs.Environment.{Environment}
use Rattle.filetree.specs.Agreement.{Files, Listings, InEachPair}
use Rattle.filetree.specs.hiding.Hidden.{AllFailed, without}
use Rattle.search.specs.DefaultFiles.{DefaultFileResult}
use Rattle.search.specs.Listed.{Listing, Listed}
use Rattle.requests.specs.Steps.{modulepath}
use Rattle.module_reports.specs.listings.Chosen.{chosen}
use Rattle.module_words.specs.declared.subcommands.table.Subcommand.TheVariants.{Avail}
use Rattle.module_reports.specs.listings.Options.{Words, report_words}
use Rattle.module_reports.specs.listings.Reports.{available_text, loaded_or_none}
use Rattle.module_reports.specs.listings.Texts.{searched_texts}
use Rattle.module_reports.specs.declared.listings.layout.Terminal.{Terminal}

-- the modules along a MODULEPATH that texts select, of what stands elsewhere than at these paths
abbrev pub ListedWithout : (Text → Text → Option DefaultFileResult → Type 0) → List Text → Files → Listings → List Text
    → Text → List Listing → Type 0
ListedWithout results paths files folders texts modulepath listings =
    Listed results (without paths files) (without paths folders) texts modulepath listings

-- The text is the report of `avail` with these options and texts: it names what they mean of the modules along
-- MODULEPATH that stand elsewhere than at these paths, and then the paths.
abbrev pub ReportsModules : (Text → Text → Option DefaultFileResult → Type 0) → List Text → Files → Listings
    → Option Terminal → Environment → Words → Text → Type 0
ReportsModules results paths files folders terminal e words text = (listings : List Listing)
    × ListedWithout results paths files folders (searched_texts words.0 words.1) (modulepath e) listings
    × (text ≡ available_text terminal words.0.lines (loaded_or_none e) (chosen words.0 words.1 listings) paths)

-- The text is this with the options and texts that the given words are, in each pair of maps that agrees. At each of the
-- paths the device has failed. The numbers are those of its failures before and after: in between it has failed where
-- there are such paths, and these are no more than its failures.
pub record ReportsAvailable (results : Text → Text → Option DefaultFileResult → Type 0)
    (agrees : Files → Listings → Type 0) (has_failed : Text → Bool) (before now : ℕ) (terminal : Option Terminal)
    (e : Environment) (given : List Text) (text : Text) : Type 0 where
  pub words : Words
  pub meaning : report_words Avail given ≡ Ok words
  pub unreadable : List Text
  pub failed : AllFailed has_failed unreadable
  pub cause : (unreadable ≡ []) ⊎ (before < now)
  pub counted : length unreadable ≤ now
  pub reports : InEachPair agrees (λ files folders.
      ReportsModules results unreadable files folders terminal e words text)
