use Rattle.audit_report.proofs.TextLemmas.{more}
use Rattle.audit_report.specs.Remarks.{other_reasons_line}
use Rattle.audit_report.proofs.remarks.push_other_reasons_standing.Goals as goal

pub returns : goal.returns
unfolding other_reasons_line
returns c =
    let r = c.push_text-8.result in
    let end = c.push_text-8.new.report.items in
    more r c.args.report.now.items c.push_text.new.report.items end _ _ c.in_ok-push_text.ensures
    (more r c.push_text.new.report.items c.push_field.new.report.items end _ _ (rw c.as_str.ensures.value at c.in_ok-push_field.ensures)
    (more r c.push_field.new.report.items c.push_text-2.new.report.items end _ _ c.in_ok-push_text-2.ensures
    (more r c.push_text-2.new.report.items c.push_field-2.new.report.items end _ _ (rw c.as_str-2.ensures.value at c.in_ok-push_field-2.ensures)
    (more r c.push_field-2.new.report.items c.push_text-3.new.report.items end _ _ c.in_ok-push_text-3.ensures
    (more r c.push_text-3.new.report.items c.push_text-4.new.report.items end _ _ (rw c.standing_word.ensures at c.in_ok-push_text-4.ensures)
    (more r c.push_text-4.new.report.items c.push_text-5.new.report.items end _ _ c.in_ok-push_text-5.ensures
    (more r c.push_text-5.new.report.items c.push_text-6.new.report.items end _ _ (rw c.standing_word-2.ensures at c.in_ok-push_text-6.ensures)
    (more r c.push_text-6.new.report.items c.push_text-7.new.report.items end _ _ c.in_ok-push_text-7.ensures
    (more r c.push_text-7.new.report.items c.push_field-3.new.report.items end _ _ (rw (c.as_str-3.ensures.value, c.in_ok-why.ensures) at c.in_ok-push_field-3.ensures) c.push_text-8.ensures)))))))))
