use Rattle.std.proofs.Common.{◌≡◌, ◌++◌, drop, map}
use Rattle.envvars.specs.Texts.{texts_in}
use Rattle.search.specs.ListingEntries.{listing_entry_view}
use Rattle.search.specs.Listed.{names_of}
use Rattle.module_reports.proofs.completions.available.push_names.Given as goal

abbrev pub invariant-loop-module : goal.invariant-loop-module
invariant-loop-module l =
    texts_in l.initial.names ++ names_of (map listing_entry_view l.modules)
    ≡ texts_in l.names ++ names_of (map listing_entry_view (drop l.module-index l.modules))
