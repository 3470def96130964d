use Rattle.std.proofs.Common.{◌≡◌, ◌++◌, drop, map}
use Rattle.envstate.specs.loaded_list.LoadedEntries.{entry_view}
use Rattle.search.specs.ListingEntries.{listing_entry_view}
use Rattle.module_reports.specs.listings.Reports.{reported}
use Rattle.module_reports.specs.listings.Views.{name_view}
use Rattle.module_reports.proofs.listings.avail.names_of.Given as goal

abbrev pub invariant-loop-entry : goal.invariant-loop-entry
invariant-loop-entry l =
    map (reported (map entry_view l.loaded) l.dir) (map listing_entry_view l.modules)
    ≡ map name_view l.names.items
    ++ map (reported (map entry_view l.loaded) l.dir) (map listing_entry_view (drop l.entry-index l.modules))
