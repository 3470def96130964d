use Rattle.std.proofs.Common.{◌≡◌, ◌++◌, drop, map, string_bytes}
use Rattle.search.specs.ListingEntries.{listing_entry_view}
use Rattle.module_reports.specs.listings.Chosen.{meant}
use Rattle.module_reports.proofs.listings.chosen.meant.Given as goal

abbrev pub invariant-loop-entry : goal.invariant-loop-entry
invariant-loop-entry l =
    meant l.options (map string_bytes l.texts) (map listing_entry_view l.modules)
    ≡ map listing_entry_view l.kept.items
    ++ meant l.options (map string_bytes l.texts) (map listing_entry_view (drop l.entry-index l.modules))
