use Rattle.audit_report.proofs.TextLemmas.{more}
use Rattle.audit_report.specs.Remarks.{missing}
use Rattle.audit_report.proofs.remarks.push_missing_directory.Goals as goal

pub returns : goal.returns
unfolding missing
returns c =
    let r = c.push_text-2.result in
    more r c.args.report.now.items c.push_text.new.report.items c.push_text-2.new.report.items _ _ c.in_ok-push_text.ensures
    (more r c.push_text.new.report.items c.push_field.new.report.items c.push_text-2.new.report.items _ _ c.in_ok-push_field.ensures c.push_text-2.ensures)
