-- All modules along a MODULEPATH in one list, each with its directory (module(1), avail).
use Rattle.std.specs.Prelude.{◌≡◌, Bool, List, [], map, flat_map, Option}
use Rattle.modulename.specs.ModuleName.{Text}
use Rattle.filetree.specs.Agreement.{Files, Listings}
use Rattle.search.specs.DefaultFiles.{DefaultFileResult}
use Rattle.search.specs.Listed.{ListingEntry, Listing, Listed}

-- a module: its directory, its full name, and whether a default file names it
abbrev pub Line : Type 0
Line = Text × (Text × Bool)

-- a module of a listing, with the directory
abbrev pub line_of : Text → ListingEntry → Line
line_of dir listing_entry = (dir, listing_entry)

-- the modules of all listings, directory after directory
abbrev pub lines_of : List Listing → List Line
lines_of listings = flat_map (λ listing. map (line_of listing.0) listing.1) listings

-- These are all modules along a MODULEPATH, in order.
abbrev pub Available : (Text → Text → Option DefaultFileResult → Type 0) → Files → Listings → Text → List Line → Type 0
Available results files folders modulepath lines =
    (listings : List Listing) × Listed results files folders [] modulepath listings × (lines ≡ lines_of listings)
