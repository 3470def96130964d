use Rattle.std.proofs.Common.{rules, List, subst}
use Rattle.std.proofs.lemmas.Result.{on_ok_weaker}
use Rattle.audit_certificate.specs.Users.{ModuleUse, HasOneMore}
use Rattle.audit_certificate.specs.UserViews.{user_view}
use Rattle.audit_certificate.specs.Tables.{users_in}
use Rattle.audit_certificate.proofs.TableLemmas.{user_entered, users_found}
use Rattle.audit_certificate.proofs.table.VariableTable.enter.Goals as goal

pub returns-in-Some : goal.returns-in-Some
returns-in-Some c =
    on_ok_weaker c.push.result
    (λ (h : HasOneMore (users_in c.in-Some.users.now.ways.items) (users_in c.push.new.self.ways.items) (user_view c.args.user)).
    user_entered c.args.self.now.variables (c.get_mut.follows.lender c.push.new.self) c.variable.result.now
    c.push.new.self ((c.get_mut.follows.holds c.push.new.self).3 (search rules)) (user_view c.args.user)
    c.variable.ensures
    (subst (λ (xs : List ModuleUse). HasOneMore xs (users_in c.push.new.self.ways.items) (user_view c.args.user))
    (users_found c.args.self.now.variables c.variable.result.now c.in-Some.users.now c.in-Some.ensures.value) h))
    c.push.ensures
