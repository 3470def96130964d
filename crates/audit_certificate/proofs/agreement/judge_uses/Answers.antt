use Rattle.std.proofs.Common.{map}
use Rattle.audit_certificate.specs.UseViews.{used_view}
use Rattle.audit_certificate.specs.DisagreementViews.{disagreement_view}
use Rattle.audit_certificate.proofs.Reported.{list_reports, reports-turn, all_reported, found_agrees, found_named}
use Rattle.audit_certificate.proofs.Reported.{list_disagrees, disagree-turn, all_disagree}
use Rattle.audit_certificate.proofs.agreement.judge_uses.Goals as goal

pub loop-wanted-init : goal.loop-wanted-init
loop-wanted-init c = record {
  reports = list_reports c.args.env.now (map disagreement_view c.args.list.items) c.requires.list;
  order = list_disagrees c.args.env.now (map disagreement_view c.args.list.items) c.requires.list;
}

pub loop-wanted-preserved : goal.loop-wanted-preserved
loop-wanted-preserved c =
    let old = map disagreement_view c.loop-wanted.found.items in
    let new = map disagreement_view c.judge_use.new.found.items in
    record {
      reports = reports-turn c.args.env.now c.args.certificate.now c.loop-wanted.wanted-index c.wanted-item.result old new
          c.loop-wanted-test.true c.wanted-item.is c.loop-wanted.invariant.reports c.in_ok-judge_use.ensures;
      order = disagree-turn c.args.env.now c.args.certificate.now c.loop-wanted.wanted-index c.wanted-item.result old new
          c.loop-wanted-test.true c.wanted-item.is c.loop-wanted.invariant.order c.in_ok-judge_use.ensures;
    }

pub returns : goal.returns
returns c =
    let ds = map disagreement_view c.loop-wanted.found.items in
    let r = all_reported c.args.env.now c.args.certificate.now c.loop-wanted.wanted-index ds c.loop-wanted-test.false
    c.loop-wanted.auto.wanted-index-end c.loop-wanted.invariant.reports in
    record {
      agrees = found_agrees disagreement_view c.args.env.now (map used_view c.args.certificate.now) c.loop-wanted.found.items r;
      named = found_named c.args.env.now (map used_view c.args.certificate.now) ds r;
      order = all_disagree c.args.env.now c.args.certificate.now c.loop-wanted.wanted-index ds c.loop-wanted-test.false
          c.loop-wanted.auto.wanted-index-end c.loop-wanted.invariant.order;
    }
