use Rattle.std.proofs.Common.{subst}
use Rattle.audit_certificate.specs.Users.{EntersAll}
use Rattle.audit_certificate.specs.Tables.{users_at}
use Rattle.audit_certificate.specs.UsingModules.{candidate_in}
use Rattle.audit_certificate.proofs.AnswerLemmas.{enters_turn, uses_through}
use Rattle.audit_certificate.proofs.table.VariableTable.enter_module.Goals as goal

pub loop-used-preserved : goal.loop-used-preserved
loop-used-preserved c =
    enters_turn (users_at c.args.self.now) (users_at c.loop-used.self) (users_at c.enter.new.self)
    (candidate_in c.args.candidate.now) c.deref-used-items.result.now c.loop-used.used-index c.used-item.result
    c.loop-used-test.true c.used-item.is
    c.loop-used.invariant c.in_ok-enter.ensures

pub returns : goal.returns
returns c =
    subst (EntersAll (users_at c.args.self.now) (users_at c.loop-used.self))
    (uses_through (candidate_in c.args.candidate.now) c.deref-used-items.result.now c.args.candidate.now.used.items
    c.loop-used.used-index c.deref-used-items.ensures.value c.loop-used-test.false c.args.candidate.now.exact)
    c.loop-used.invariant
