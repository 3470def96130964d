use Rattle.std.proofs.Common.{string_bytes, ap, ◌∙◌, ◌++◌}
use Rattle.envvars.specs.Texts.{Text}
use Rattle.modulefile.specs.Reports.{line_of}
use Rattle.requests.proofs.ReportLemmas.{line_turn}
use Rattle.requests.proofs.list.push_lines.Goals as goal

pub loop-text-preserved : goal.loop-text-preserved
loop-text-preserved c =
    line_turn (string_bytes c.args.report.now) (string_bytes c.loop-text.report) (string_bytes c.push_line.new.report)
    c.args.texts.now c.loop-text.text-index c.text-item.result c.loop-text-test.true c.text-item.is
    c.loop-text.invariant (c.in_ok-push_line.ensures ∙ ap (λ (t : Text). string_bytes c.loop-text.report ++ line_of t) c.as_str.ensures.value)
