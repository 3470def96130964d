use Rattle.std.proofs.Common.{◌≡◌, ◌++◌, drop, flat_map, map, string_bytes}
use Rattle.module_reports.specs.listings.Reports.{name_line}
use Rattle.module_reports.specs.listings.Views.{name_view}
use Rattle.module_reports.proofs.listings.layout.push_names.Given as goal

abbrev pub invariant-loop-name : goal.invariant-loop-name
invariant-loop-name l =
    string_bytes l.initial.report ++ flat_map name_line (map name_view l.names)
    ≡ string_bytes l.report ++ flat_map name_line (map name_view (drop l.name-index l.names))
