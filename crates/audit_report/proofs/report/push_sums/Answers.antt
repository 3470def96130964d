use Rattle.audit_report.proofs.TextLemmas.{more}
use Rattle.audit_report.proofs.report.push_sums.Goals as goal

pub returns : goal.returns
returns c =
    let r = c.push_sum-6.result in
    more r c.args.report.now.items c.push_sum.new.report.items c.push_sum-6.new.report.items _ _ c.in_ok-push_sum.ensures
    (more r c.push_sum.new.report.items c.push_sum-2.new.report.items c.push_sum-6.new.report.items _ _ c.in_ok-push_sum-2.ensures
    (more r c.push_sum-2.new.report.items c.push_sum-3.new.report.items c.push_sum-6.new.report.items _ _ c.in_ok-push_sum-3.ensures
    (more r c.push_sum-3.new.report.items c.push_sum-4.new.report.items c.push_sum-6.new.report.items _ _ c.in_ok-push_sum-4.ensures
    (more r c.push_sum-4.new.report.items c.push_sum-5.new.report.items c.push_sum-6.new.report.items _ _ c.in_ok-push_sum-5.ensures c.push_sum-6.ensures))))
