use Rattle.std.proofs.Common.{◌≡◌, ◌++◌, drop, map}
use Rattle.search.specs.Listings.{listing_view}
use Rattle.lookup.specs.Lines.{lines_of}
use Rattle.lookup.specs.LineViews.{line_view}
use Rattle.lookup.proofs.listings.joined.Given as goal

abbrev pub invariant-loop-directory : goal.invariant-loop-directory
invariant-loop-directory l =
    lines_of (map listing_view l.directories)
    ≡ map line_view l.listings.items ++ lines_of (map listing_view (drop l.directory-index l.directories))
