use Rattle.std.proofs.lemmas.Result.{on_ok_weaker}
use Rattle.audit_certificate.specs.Users.{EntersAll, uses_of_module}
use Rattle.audit_certificate.specs.Tables.{users_at}
use Rattle.audit_certificate.specs.UsingModules.{candidate_in}
use Rattle.audit_certificate.proofs.TakenUsers.{next_passed, next_entered}
use Rattle.audit_certificate.proofs.table.VariableTable.enter_next.Goals as goal

pub returns-in-Some : goal.returns-in-Some
returns-in-Some c = next_passed (users_at c.args.self.now) (candidate_in c.args.candidate.now) _ c.in-Some.ensures

pub returns : goal.returns
returns c =
    on_ok_weaker c.enter_module.result
    (λ (h : EntersAll (users_at c.args.self.now) (users_at c.enter_module.new.self) (uses_of_module (candidate_in c.args.candidate.now))).
    next_entered (users_at c.args.self.now) (users_at c.enter_module.new.self) (candidate_in c.args.candidate.now) c.in-None.ensures h)
    c.enter_module.ensures
