use Rattle.std.proofs.Common.{◌≡◌, List, [], sym, ap, ◌∙◌, subst}
use Rattle.audit_certificate.specs.Users.{ModuleUse, HasOneMore}
use Rattle.audit_certificate.specs.UserViews.{user_view}
use Rattle.audit_certificate.specs.Tables.{users_in}
use Rattle.audit_certificate.proofs.TableLemmas.{users_of, user_entered}
use Rattle.audit_certificate.proofs.table.VariableTable.begin_variable.Goals as goal

pub returns : goal.returns
returns c =
    let none : users_of c.args.self.now.variables c.variable.result.now ≡ [] = ap (users_of c.args.self.now.variables) c.variable.ensures ∙ c.requires in
    user_entered c.args.self.now.variables c.insert.new.self c.variable.result.now c.in_ok-users.users c.in_ok-insert.ensures.updates (user_view c.args.user) c.variable.ensures
    (subst (λ (xs : List ModuleUse). HasOneMore xs (users_in c.in_ok-users.users.ways.items) (user_view c.args.user)) (sym none) c.in_ok-users.ensures)
