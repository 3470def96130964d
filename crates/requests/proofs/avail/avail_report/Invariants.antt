use Rattle.std.proofs.Common.{◌≡◌, ◌++◌, drop, map, string_bytes}
use Rattle.search.specs.Listings.{listing_view}
use Rattle.requests.specs.Reports.{avail_text}
use Rattle.requests.proofs.avail.avail_report.Given as goal

abbrev pub invariant-loop-listing : goal.invariant-loop-listing
invariant-loop-listing l =
    string_bytes l.report ++ avail_text (map listing_view (drop l.listing-index l.listings))
    ≡ avail_text (map listing_view l.listings)
