use Rattle.audit_report.proofs.TextLemmas.{more}
use Rattle.audit_report.proofs.report.push_lines.Goals as goal

pub returns : goal.returns
returns c =
    more c.push_unreadable.result c.args.report.now.items c.push_modules.new.report.items c.push_unreadable.new.report.items _ _
    (rw (c.as_slice.ensures.value, c.as_slice-2.ensures.value) at c.in_ok-push_modules.ensures) (rw c.as_slice-3.ensures.value at c.push_unreadable.ensures)
