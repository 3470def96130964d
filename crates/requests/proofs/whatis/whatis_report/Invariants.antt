use Rattle.std.proofs.Common.{◌≡◌, ◌++◌, drop, map, string_bytes}
use Rattle.modulefile.specs.RecordViews.{record_view}
use Rattle.modulefile.specs.Reports.{whatis_text}
use Rattle.requests.proofs.whatis.whatis_report.Given as goal

abbrev pub invariant-loop-recorded : goal.invariant-loop-recorded
invariant-loop-recorded l =
    string_bytes l.report ++ whatis_text l.name (map record_view (drop l.recorded-index l.records)) ≡ whatis_text l.name (map record_view l.records)
