use Rattle.audit_certificate.specs.UsingModules.{candidate_in}
use Rattle.audit_certificate.proofs.TallyLemmas.{tally_turn}
use Rattle.audit_certificate.proofs.tally.Tally.of.Goals as goal

pub loop-candidate-preserved : goal.loop-candidate-preserved
loop-candidate-preserved c =
    tally_turn candidate_in c.loop-candidate.tally c.enter_module.new.self c.args.users.now c.loop-candidate.candidate-index
    c.candidate-item.result c.loop-candidate-test.true c.candidate-item.is c.loop-candidate.invariant
    c.in_ok-enter_module.ensures
