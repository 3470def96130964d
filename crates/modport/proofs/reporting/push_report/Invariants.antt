use Rattle.std.proofs.Common.{◌≡◌, ◌++◌, take}
use Rattle.modport.specs.Lines.{report}
use Rattle.modport.specs.LineViews.{lines_view}
use Rattle.modport.proofs.reporting.push_report.Given as goal

abbrev pub invariant-loop-line : goal.invariant-loop-line
invariant-loop-line l =
    l.report.items ≡ l.initial.report.items ++ report l.json l.path (lines_view (take l.line-index l.lines))
