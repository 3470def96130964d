use Rattle.std.proofs.Common.{◌≡◌, ◌++◌, drop, map, string_bytes}
use Rattle.envstate.specs.loaded_list.Loaded.{names_of}
use Rattle.envstate.specs.loaded_list.LoadedEntries.{entry_view}
use Rattle.module_reports.specs.listings.Reports.{names_meant}
use Rattle.module_reports.proofs.listings.list.names_meant.Given as goal

abbrev pub invariant-loop-entry : goal.invariant-loop-entry
invariant-loop-entry l =
    names_meant (l.options, map string_bytes l.texts) (names_of (map entry_view l.entries))
    ≡ map string_bytes l.names.items
    ++ names_meant (l.options, map string_bytes l.texts) (names_of (map entry_view (drop l.entry-index l.entries)))
