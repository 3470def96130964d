use Rattle.std.proofs.Common.{refl}
use Rattle.audit_certificate.proofs.Taken.{ranks_turn, ranked_turn}
use Rattle.audit_certificate.proofs.ranks.with_competitors.Goals as goal

pub loop-candidate-preserved : goal.loop-candidate-preserved
loop-candidate-preserved c = record {
  modules = ranks_turn c.loop-candidate.ranks.items c.push.new.self.items c.args.users.now c.loop-candidate.candidate-index
      c.candidate-item.result _ c.loop-candidate-test.true c.candidate-item.is c.in_ok-push.ensures.items refl
      c.loop-candidate.invariant.modules;
  competitors = λ ms have. ranked_turn ms c.loop-candidate.ranks.items c.push.new.self.items _ c.in_ok-push.ensures.items
      (c.loop-candidate.invariant.competitors ms have) (c.in_ok-competitors.ensures ms have);
}
