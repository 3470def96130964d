use Rattle.audit_report.proofs.TextLemmas.{more}
use Rattle.audit_report.specs.Reports.{module_line}
use Rattle.audit_report.proofs.report.push_line.Goals as goal

pub returns : goal.returns
unfolding module_line
returns c =
    let r = c.push_text-5.result in
    more r c.args.report.now.items c.push_field.new.report.items c.push_text-5.new.report.items _ _ (rw c.as_str.ensures.value at c.in_ok-push_field.ensures)
    (more r c.push_field.new.report.items c.push_text.new.report.items c.push_text-5.new.report.items _ _ c.in_ok-push_text.ensures
    (more r c.push_text.new.report.items c.push_text-2.new.report.items c.push_text-5.new.report.items _ _ (rw c.standing_word.ensures at c.in_ok-push_text-2.ensures)
    (more r c.push_text-2.new.report.items c.push_text-3.new.report.items c.push_text-5.new.report.items _ _ c.in_ok-push_text-3.ensures
    (more r c.push_text-3.new.report.items c.push_field-2.new.report.items c.push_text-5.new.report.items _ _ (rw (c.as_str-2.ensures.value, c.in_ok-why.ensures) at c.in_ok-push_field-2.ensures)
    (more r c.push_field-2.new.report.items c.push_text-4.new.report.items c.push_text-5.new.report.items _ _ c.in_ok-push_text-4.ensures
    (more r c.push_text-4.new.report.items c.push_field-3.new.report.items c.push_text-5.new.report.items _ _ (rw c.as_str-3.ensures.value at c.in_ok-push_field-3.ensures)
    (more r c.push_field-3.new.report.items c.push_refused_line.new.report.items c.push_text-5.new.report.items _ _ c.in_ok-push_refused_line.ensures
    (more r c.push_refused_line.new.report.items c.push_here.new.report.items c.push_text-5.new.report.items _ _ c.in_ok-push_here.ensures c.push_text-5.ensures))))))))
