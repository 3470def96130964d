use Rattle.audit_report.proofs.TextLemmas.{more}
use Rattle.audit_report.proofs.report.push_counts.Goals as goal

pub returns : goal.returns
returns c =
    more c.push_sums.result c.args.report.now.items c.push_count.new.report.items c.push_sums.new.report.items _ _
    (rw (c.as_slice-unreadable.ensures.value, c.as_slice-modules.ensures.value) at c.in_ok-push_count.ensures)
    (rw (c.as_slice-unreadable.ensures.value, c.as_slice-modules.ensures.value) at c.push_sums.ensures)
