use Rattle.audit_report.specs.Remarks.{conflict_line}
use Rattle.audit_report.proofs.TextLemmas.{more}
use Rattle.audit_report.proofs.conflicts.push_conflict.Goals as goal

pub returns : goal.returns
unfolding conflict_line
returns c =
    let r = c.push_text-4.result in
    more r c.args.report.now.items c.push_text.new.report.items c.push_text-4.new.report.items _ _ c.in_ok-push_text.ensures
    (more r c.push_text.new.report.items c.push_name.new.report.items c.push_text-4.new.report.items _ _ c.in_ok-push_name.ensures
    (more r c.push_name.new.report.items c.push_text-2.new.report.items c.push_text-4.new.report.items _ _ c.in_ok-push_text-2.ensures
    (more r c.push_text-2.new.report.items c.push_text-3.new.report.items c.push_text-4.new.report.items _ _
    (rw (c.as_str.ensures.value, c.in_ok-files.ensures) at c.in_ok-push_text-3.ensures) c.push_text-4.ensures)))
