use Rattle.audit_certificate.specs.UsingModules.{candidate_in}
use Rattle.audit_certificate.proofs.AnswerLemmas.{answers_turn}
use Rattle.audit_certificate.proofs.answers.answers_of.Goals as goal

pub loop-candidate-preserved : goal.loop-candidate-preserved
loop-candidate-preserved c = λ ms have all.
    answers_turn candidate_in ms c.args.users.now c.loop-candidate.candidate-index c.candidate-item.result
    c.loop-candidate.found.items c.push.new.self.items c.in_ok-clash_of.field-0 c.loop-candidate-test.true
    c.candidate-item.is
    c.in_ok-push.ensures.items (c.loop-candidate.invariant ms have all) (c.in_ok-clash_of.ensures ms have all)
