use Rattle.std.proofs.Common.{◌≡◌, ◌++◌, drop, map, string_bytes}
use Rattle.module_reports.specs.listings.Reports.{shown_report}
use Rattle.module_reports.specs.listings.Views.{part_view}
use Rattle.module_reports.proofs.listings.layout.shown_report.Given as goal

abbrev pub invariant-loop-part : goal.invariant-loop-part
invariant-loop-part l =
    string_bytes l.report ++ shown_report l.terminal l.in_lines (map part_view (drop l.part-index l.parts))
    ≡ shown_report l.terminal l.in_lines (map part_view l.parts)
