use Rattle.std.proofs.Common.{string_bytes}
use Rattle.modulecmd.proofs.NotUtf8Lemmas.{lines_more}
use Rattle.modulecmd.proofs.not_utf8.push_not_utf8.Goals as goal

pub loop-name-preserved : goal.loop-name-preserved
loop-name-preserved c =
    lines_more c.args.names.now c.loop-name.name-index c.name-item.result (string_bytes c.args.report.now)
    (string_bytes c.loop-name.report) (string_bytes c.push_line.new.report) c.loop-name-test.true c.name-item.is
    c.loop-name.invariant (rw c.as_str.ensures.value at c.in_ok-push_line.ensures)
