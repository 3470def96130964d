use Rattle.std.proofs.Common.{rules, tests}
use Rattle.audit_certificate.specs.UseViews.{used_view}
use Rattle.audit_certificate.specs.DisagreementViews.{disagreement_view}
use Rattle.audit_certificate.proofs.Reported.{judged_bad, judged_read}
use Rattle.audit_certificate.proofs.agreement.judge_use.Goals as goal

pub returns-in_ok-push : goal.returns-in_ok-push
returns-in_ok-push c =
    judged_bad disagreement_view c.args.env.now (used_view c.args.wanted.now) c.args.found.now.items
    c.push.new.self.items _ c.in_ok-agrees_with_use.field-0 (search (rules, tests))
    c.in_ok-agrees_with_use.ensures
    (search (rules)) c.in_ok-push.ensures.items

pub returns-in_default : goal.returns-in_default
returns-in_default c =
    judged_read c.args.env.now (used_view c.args.wanted.now) c.in_ok-agrees_with_use.field-0 (search (rules, tests)) c.in_ok-agrees_with_use.ensures (search (rules))
