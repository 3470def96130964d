use Rattle.std.proofs.Common.{Some, None}
use Rattle.audit_certificate.specs.UserViews.{user_view}
use Rattle.audit_certificate.proofs.TallyLemmas.{four_counted}
use Rattle.audit_certificate.proofs.tally.Tally.enter.Goals as goal

pub returns : goal.returns
returns c =
    four_counted c.args.self.now c.add.new.self c.add-2.new.self c.add-3.new.self c.add-4.new.self
    (record { variable = c.variable-variable.result; used = None; root = None })
    (record { variable = c.variable-variable.result; used = None; root = Some c.root.result })
    (record { variable = c.variable-variable.result; used = Some c.key_of.result; root = None })
    (record { variable = c.variable-variable.result; used = Some c.key_of.result; root = Some c.root.result })
    (user_view c.args.user) c.in_ok-add.ensures c.in_ok-add-2.ensures c.in_ok-add-3.ensures c.in_ok-add-4.ensures
    (λ i. record { variable = c.variable-variable.ensures i; used = None; root = None })
    (λ i. record { variable = c.variable-variable.ensures i; used = None; root = Some (c.root.ensures i) })
    (λ i. record { variable = c.variable-variable.ensures i; used = Some (c.key_of.ensures i); root = None })
    (λ i. record { variable = c.variable-variable.ensures i; used = Some (c.key_of.ensures i); root = Some (c.root.ensures i) })
