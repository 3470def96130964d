use Rattle.std.proofs.Common.{◌≡◌, ◌++◌, length, map}
use Rattle.search.specs.ListingEntries.{listing_entry_view}
use Rattle.module_reports.specs.listings.Chosen.{asked_for, of_versions}
use Rattle.module_reports.proofs.listings.chosen.of_versions.Given as goal

abbrev pub invariant-loop-rest : goal.invariant-loop-rest
invariant-loop-rest l =
    of_versions l.versions (map listing_entry_view l.modules)
    ≡ map listing_entry_view l.kept.items
    ++ asked_for l.versions (map listing_entry_view l.modules) (map listing_entry_view l.rest)

abbrev pub decreases-loop-rest : goal.decreases-loop-rest
decreases-loop-rest l = length l.rest
