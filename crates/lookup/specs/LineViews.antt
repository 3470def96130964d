-- How the type of the code shows a module with its directory.
use Rattle.std.specs.Prelude.{string_bytes}
use Rattle.lookup.specs.Lines.{Line}
use Rattle.lookup.specs.declared.listings.Listing.{Listing}

-- its directory, its full name, and its mark
abbrev pub line_view : Listing → Line
line_view listing = (string_bytes listing.dir, (string_bytes listing.name, listing.is_default))
