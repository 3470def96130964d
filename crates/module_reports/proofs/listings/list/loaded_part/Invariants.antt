use Rattle.std.proofs.Common.{◌≡◌, ◌++◌, drop, map, string_bytes}
use Rattle.module_reports.specs.listings.Reports.{unmarked}
use Rattle.module_reports.specs.listings.Views.{name_view}
use Rattle.module_reports.proofs.listings.list.loaded_part.Given as goal

abbrev pub invariant-loop-name : goal.invariant-loop-name
invariant-loop-name l =
    map unmarked (map string_bytes l.names)
    ≡ map name_view l.unmarked.items ++ map unmarked (map string_bytes (drop l.name-index l.names))
