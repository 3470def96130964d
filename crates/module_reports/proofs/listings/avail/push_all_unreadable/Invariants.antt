use Rattle.std.proofs.Common.{◌≡◌, ◌++◌, drop, flat_map, map, string_bytes}
use Rattle.module_reports.specs.listings.Reports.{unreadable_line}
use Rattle.module_reports.proofs.listings.avail.push_all_unreadable.Given as goal

abbrev pub invariant-loop-path : goal.invariant-loop-path
invariant-loop-path l =
    string_bytes l.initial.report ++ flat_map (unreadable_line l.terminal) (map string_bytes l.paths)
    ≡ string_bytes l.report ++ flat_map (unreadable_line l.terminal) (map string_bytes (drop l.path-index l.paths))
