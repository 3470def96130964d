-- The lines of a directory in the report of `avail`.
use Rattle.std.proofs.Common.{◌≡◌, ◌<◌, List, [], ◌∷◌, ◌++◌, codes, flat_map, map, length, refl, arith}
use Rattle.envvars.specs.Texts.{Text}
use Rattle.modulefile.specs.Reports.{line_of}
use Rattle.search.specs.ListingEntries.{listing_entry_view}
use Rattle.search.specs.declared.listing_entries.ListingEntry.{ListingEntry}
use Rattle.requests.specs.Reports.{module_line, modules_text}

-- without a module it has none
pub no_text : (dir : Text) (modules : List ListingEntry) → length modules ≡ 0 → modules_text dir (map listing_entry_view modules) ≡ []
no_text dir [] h = refl
no_text dir (m ∷ ms) h = absurd (omega (arith, h))

-- with modules it has its own line, and those of the modules
pub some_text : (dir : Text) (modules : List ListingEntry) → 0 < length modules
    → modules_text dir (map listing_entry_view modules) ≡ line_of (dir ++ codes ":") ++ flat_map module_line (map listing_entry_view modules)
some_text dir [] h = absurd (omega arith)
some_text dir (m ∷ ms) h = refl
