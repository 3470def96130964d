use Rattle.std.proofs.Common.{ap, ◌∙◌}
use Rattle.std.specs.List.{count_by, sum_by}
use Rattle.audit_certificate.specs.Users.{ModuleUse, uses_of_modules}
use Rattle.audit_certificate.specs.Ranks.{is_competitor}
use Rattle.audit_certificate.specs.UsingModules.{candidate_in}
use Rattle.audit_certificate.proofs.AnswerLemmas.{uses_through}
use Rattle.audit_certificate.proofs.TallyLemmas.{sum_turn}
use Rattle.audit_certificate.proofs.tally.Tally.competitors.Goals as goal

pub loop-used-preserved : goal.loop-used-preserved
loop-used-preserved c = λ ms have.
    sum_turn (λ (x : ModuleUse). count_by (is_competitor x) (uses_of_modules ms)) (candidate_in c.args.candidate.now)
    c.deref-used-items.result.now c.loop-used.used-index c.used-item.result c.loop-used.number c.in_ok-competitors.competitors
    c.in_ok-number.number c.loop-used-test.true c.used-item.is (c.loop-used.invariant ms have)
    (c.in_ok-competitors.ensures (uses_of_modules ms) have) c.in_ok-number.ensures

pub returns : goal.returns
returns c = λ ms have.
    c.loop-used.invariant ms have
    ∙ ap (sum_by (λ (x : ModuleUse). count_by (is_competitor x) (uses_of_modules ms)))
    (uses_through (candidate_in c.args.candidate.now) c.deref-used-items.result.now c.args.candidate.now.used.items
    c.loop-used.used-index c.deref-used-items.ensures.value c.loop-used-test.false c.args.candidate.now.exact)
