use Rattle.std.proofs.Common.{◌≡◌, flat_map, map, string_bytes, take}
use Rattle.envstate.specs.loaded_list.LoadedEntries.{entry_view}
use Rattle.module_reports.specs.listings.Hints.{hint}
use Rattle.module_reports.proofs.listings.hints.unload_hints.Given as goal

abbrev pub invariant-loop-name : goal.invariant-loop-name
invariant-loop-name l =
    string_bytes l.lines ≡ flat_map (hint (map entry_view l.entries)) (map string_bytes (take l.name-index l.names))
