-- The module that a name means, without its text: its full name, and the path of its file (module(1)).
use Rattle.std.specs.Prelude.{Option, Result, Ok}
use Rattle.modulename.specs.ModuleName.{Text}
use Rattle.filetree.specs.Agreement.{Files, Listings}
use Rattle.filetree.specs.Relations.{Is, Then}
use Rattle.search.specs.Reasons.{FindReason}
use Rattle.search.specs.DefaultFiles.{DefaultFileResult}
use Rattle.search.specs.Found.{FoundModule, Found}

-- a module's full name, and the path of its file
pub record LocatedModule : Type 0 where
  pub name : Text
  pub path : Text

-- a module that was found, without its text
abbrev pub located_module_of : FoundModule → LocatedModule
located_module_of found = record { name = found.name; path = found.path }

-- The module that a name means along a MODULEPATH, or the reason why it means none.
abbrev pub Located : (Text → Text → Option DefaultFileResult → Type 0) → Files → Listings → Text → Text
    → Result LocatedModule FindReason
    → Type 0
Located results files folders modulepath name =
    Then (Found results files folders modulepath name) (λ found. Is (Ok (located_module_of found)))
