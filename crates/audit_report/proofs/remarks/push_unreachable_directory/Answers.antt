use Rattle.audit_report.proofs.TextLemmas.{more}
use Rattle.audit_report.specs.Remarks.{unreachable_line}
use Rattle.audit_report.proofs.remarks.push_unreachable_directory.Goals as goal

pub returns : goal.returns
unfolding unreachable_line
returns c =
    let r = c.push_text-4.result in
    more r c.args.report.now.items c.push_text.new.report.items c.push_text-4.new.report.items _ _ c.in_ok-push_text.ensures
    (more r c.push_text.new.report.items c.push_field.new.report.items c.push_text-4.new.report.items _ _ (rw c.as_str.ensures.value at c.in_ok-push_field.ensures)
    (more r c.push_field.new.report.items c.push_text-2.new.report.items c.push_text-4.new.report.items _ _ c.in_ok-push_text-2.ensures
    (more r c.push_text-2.new.report.items c.push_field-2.new.report.items c.push_text-4.new.report.items _ _ (rw c.as_str-2.ensures.value at c.in_ok-push_field-2.ensures)
    (more r c.push_field-2.new.report.items c.push_text-3.new.report.items c.push_text-4.new.report.items _ _ c.in_ok-push_text-3.ensures
    (more r c.push_text-3.new.report.items c.push_field-3.new.report.items c.push_text-4.new.report.items _ _ (rw c.as_str-3.ensures.value at c.in_ok-push_field-3.ensures) c.push_text-4.ensures)))))
