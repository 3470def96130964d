use Rattle.std.proofs.Common.{◌≡◌, ◌++◌, drop, map}
use Rattle.search.specs.ListingEntries.{listing_entry_view}
use Rattle.lookup.specs.Lines.{line_of}
use Rattle.lookup.specs.LineViews.{line_view}
use Rattle.lookup.proofs.listings.push_modules.Given as goal

abbrev pub invariant-loop-module : goal.invariant-loop-module
invariant-loop-module l =
    map line_view l.initial.listings.items ++ map (line_of l.dir) (map listing_entry_view l.modules)
    ≡ map line_view l.listings.items ++ map (line_of l.dir) (map listing_entry_view (drop l.module-index l.modules))
