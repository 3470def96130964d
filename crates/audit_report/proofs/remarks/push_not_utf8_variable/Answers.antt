use Rattle.audit_report.proofs.TextLemmas.{more}
use Rattle.audit_report.specs.Remarks.{not_utf8}
use Rattle.audit_report.proofs.remarks.push_not_utf8_variable.Goals as goal

pub returns : goal.returns
unfolding not_utf8
returns c =
    let r = c.push_text-2.result in
    more r c.args.report.now.items c.push_text.new.report.items c.push_text-2.new.report.items _ _ c.in_ok-push_text.ensures
    (more r c.push_text.new.report.items c.push_field.new.report.items c.push_text-2.new.report.items _ _ c.in_ok-push_field.ensures c.push_text-2.ensures)
