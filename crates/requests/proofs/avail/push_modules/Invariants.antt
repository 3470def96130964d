use Rattle.std.proofs.Common.{◌≡◌, ◌++◌, drop, flat_map, map, string_bytes}
use Rattle.search.specs.ListingEntries.{listing_entry_view}
use Rattle.requests.specs.Reports.{module_line}
use Rattle.requests.proofs.avail.push_modules.Given as goal

abbrev pub invariant-loop-listing_entry : goal.invariant-loop-listing_entry
invariant-loop-listing_entry l =
    string_bytes l.initial.report ++ flat_map module_line (map listing_entry_view l.modules)
    ≡ string_bytes l.report ++ flat_map module_line (map listing_entry_view (drop l.listing_entry-index l.modules))
