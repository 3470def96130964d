-- How the type of the code shows the listing of a directory.
use Rattle.std.specs.Prelude.{map, string_bytes, vec_items}
use Rattle.search.specs.Listed as listed
use Rattle.search.specs.ListingEntries.{listing_entry_view}
use Rattle.search.specs.declared.listings.DirectoryListing.{DirectoryListing}

-- the directory, and its modules with their marks
abbrev pub listing_view : DirectoryListing → listed.Listing
listing_view listing = (string_bytes listing.dir, map listing_entry_view (vec_items listing.modules))
