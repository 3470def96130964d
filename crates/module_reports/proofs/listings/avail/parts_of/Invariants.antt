use Rattle.std.proofs.Common.{◌≡◌, ◌++◌, drop, map}
use Rattle.envstate.specs.loaded_list.LoadedEntries.{entry_view}
use Rattle.search.specs.Listings.{listing_view}
use Rattle.module_reports.specs.listings.Reports.{part_of}
use Rattle.module_reports.specs.listings.Views.{part_view}
use Rattle.module_reports.proofs.listings.avail.parts_of.Given as goal

abbrev pub invariant-loop-listing : goal.invariant-loop-listing
invariant-loop-listing l =
    map (part_of (map entry_view l.loaded)) (map listing_view l.listings)
    ≡ map part_view l.parts.items
    ++ map (part_of (map entry_view l.loaded)) (map listing_view (drop l.listing-index l.listings))
