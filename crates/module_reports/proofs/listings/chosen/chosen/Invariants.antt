use Rattle.std.proofs.Common.{◌≡◌, ◌++◌, drop, map, string_bytes}
use Rattle.search.specs.Listings.{listing_view}
use Rattle.module_reports.specs.listings.Chosen.{chosen}
use Rattle.module_reports.proofs.listings.chosen.chosen.Given as goal

abbrev pub invariant-loop-listing : goal.invariant-loop-listing
invariant-loop-listing l =
    chosen l.options (map string_bytes l.texts) (map listing_view l.listings)
    ≡ map listing_view l.chosen.items
    ++ chosen l.options (map string_bytes l.texts) (map listing_view (drop l.listing-index l.listings))
