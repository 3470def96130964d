-- The bytes of the reports of `list` and `avail` (own). Those of `show` and `whatis` are defined with the records of a
-- modulefile.
use Rattle.std.specs.Prelude.{List, [], ◌∷◌, ◌++◌, codes, flat_map, if◌then◌else◌}
use Rattle.envvars.specs.Texts.{Text}
use Rattle.modulefile.specs.Reports.{line_of}
use Rattle.search.specs.Listed.{ListingEntry, Listing}

-- list: the names of the loaded modules, in load order, one a line
abbrev pub loaded_text : List Text → Text
loaded_text [] = line_of (codes "No Modulefiles Currently Loaded.")
loaded_text (name ∷ names) = flat_map line_of (codes "Currently Loaded Modulefiles:" ∷ name ∷ names)

-- avail: a module that a default file names is marked
abbrev pub module_line : ListingEntry → Text
module_line listing_entry = line_of (listing_entry.0 ++ (if listing_entry.1 then codes "(default)" else []))

-- the lines of a directory: its name, and each of its modules; without a module to report it has none
abbrev pub modules_text : Text → List ListingEntry → Text
modules_text dir [] = []
modules_text dir (row ∷ listing_entries) = line_of (dir ++ codes ":") ++ flat_map module_line (row ∷ listing_entries)

-- the directories of the search path in turn
abbrev pub avail_text : List Listing → Text
avail_text listings = flat_map (λ listing. modules_text listing.0 listing.1) listings
