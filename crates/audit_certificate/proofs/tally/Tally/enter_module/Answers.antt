use Rattle.std.proofs.Common.{subst}
use Rattle.audit_certificate.specs.Tallies.{CountsMore}
use Rattle.audit_certificate.specs.UsingModules.{candidate_in}
use Rattle.audit_certificate.proofs.AnswerLemmas.{uses_through}
use Rattle.audit_certificate.proofs.TallyLemmas.{none_counted, counted_turn}
use Rattle.audit_certificate.proofs.tally.Tally.enter_module.Goals as goal

pub loop-used-init : goal.loop-used-init
loop-used-init c = none_counted c.args.self.now

pub loop-used-preserved : goal.loop-used-preserved
loop-used-preserved c =
    counted_turn c.args.self.now c.loop-used.self c.enter.new.self (candidate_in c.args.candidate.now)
    c.deref-used-items.result.now c.loop-used.used-index c.used-item.result c.loop-used-test.true c.used-item.is
    c.loop-used.invariant c.in_ok-enter.ensures

pub returns : goal.returns
returns c =
    subst (CountsMore c.args.self.now c.loop-used.self)
    (uses_through (candidate_in c.args.candidate.now) c.deref-used-items.result.now c.args.candidate.now.used.items
    c.loop-used.used-index c.deref-used-items.ensures.value c.loop-used-test.false c.args.candidate.now.exact)
    c.loop-used.invariant
