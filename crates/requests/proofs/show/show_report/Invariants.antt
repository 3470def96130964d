use Rattle.std.proofs.Common.{◌≡◌, map, string_bytes, take}
use Rattle.modulefile.specs.RecordViews.{record_view}
use Rattle.modulefile.specs.Reports.{show_text}
use Rattle.requests.proofs.show.show_report.Given as goal

abbrev pub invariant-loop-recorded : goal.invariant-loop-recorded
invariant-loop-recorded l = string_bytes l.report ≡ show_text l.path (map record_view (take l.recorded-index l.records))
