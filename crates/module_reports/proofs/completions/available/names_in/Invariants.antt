use Rattle.std.proofs.Common.{◌≡◌, ◌++◌, drop, map}
use Rattle.envvars.specs.Texts.{texts_in}
use Rattle.search.specs.Listings.{listing_view}
use Rattle.module_reports.specs.completions.Offered.{names_in}
use Rattle.module_reports.proofs.completions.available.names_in.Given as goal

abbrev pub invariant-loop-listing : goal.invariant-loop-listing
invariant-loop-listing l =
    names_in (map listing_view l.listings)
    ≡ texts_in l.names ++ names_in (map listing_view (drop l.listing-index l.listings))
