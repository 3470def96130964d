-- How the type of the code shows a module of a listing, and the order in which listings are sorted.
use Rattle.std.specs.Prelude.{Bool, Option, bytes_eq, string_bytes}
use Rattle.std.specs.Ordering.{is_lt}
use Rattle.modulename.specs.ModuleName.{Text}
use Rattle.modulename.specs.Versions.{version_order}
use Rattle.search.specs.Listed as listed
use Rattle.search.specs.Marks.{is_marked_by}
use Rattle.search.specs.declared.listing_entries.ListingEntry.{ListingEntry}

-- its full name and its mark
abbrev pub listing_entry_view : ListingEntry → listed.ListingEntry
listing_entry_view listing_entry = (string_bytes listing_entry.name, listing_entry.is_default)

-- its full name
abbrev pub name_of : ListingEntry → Text
name_of listing_entry = string_bytes listing_entry.name

-- the module of this name, marked where it is the default
abbrev pub listing_entry_of : Option Text → Text → listed.ListingEntry
listing_entry_of default name = (name, is_marked_by default name)

-- the first comes before the second in version order
abbrev pub goes_before : ListingEntry → ListingEntry → Bool
goes_before listing_entry other = is_lt (version_order (name_of listing_entry) (name_of other))

-- both have the same name
abbrev pub is_same_name : ListingEntry → ListingEntry → Bool
is_same_name listing_entry other = bytes_eq (name_of listing_entry) (name_of other)
